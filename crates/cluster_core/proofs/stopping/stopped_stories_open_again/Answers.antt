use Rattle.std.proofs.Common.{◌<◌, ◌∙◌, ℕ, List, ap, map}
use Rattle.messages.specs.declared.record.RecordParts.{RecordParts}
use Rattle.cluster_model.specs.Openings.{GoodOpening}
use Rattle.cluster_model.specs.Steps.{marked_of}
use Rattle.cluster_agents.specs.Records.{in_order}
use Rattle.cluster_core.specs.Stopping.{AreFound, live_of}
use Rattle.cluster_core.specs.Stories.{IsLegal, Story, opened_over, state_of}
use Rattle.cluster_core.proofs.Found.{found_in_order, found_of, live_so}
use Rattle.cluster_agents.proofs.Permuted.{good_permuted}
use Rattle.cluster_core.proofs.stopping.stopped_stories_open_again.Goals as goal

pub returns : goal.returns
returns c = record {
  good = good;
  records = λ s agents found legal of own f. found_of s.setup s.records (map marked_of s.entries) agents found of own f;
  live = λ s later agents found legal of above f.
      let records = in_order agents found in
      live_so (state_of (opened_over later agents found)).world.channels records (c.masters_leave_agents.ensures.opening later records)
      ∙ ap live_of (found_in_order s.setup s.records (map marked_of s.entries) later.run agents found of f (good s later.run found legal above f));
}
  where
    good : (s : Story) (later : ℕ) (found : List RecordParts) → IsLegal s → (state_of s).world.run.number < later → AreFound (state_of s) found → GoodOpening later found
    good s later found legal above f = good_permuted later f.by_agent found f.moved (c.found_records_open_again.ensures s.setup s.records (map marked_of s.entries) later f.by_agent legal.good above f.is_found)
