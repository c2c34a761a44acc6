use Rattle.std.proofs.Common.{map}
use Rattle.cluster_model.specs.Steps.{marked_of}
use Rattle.cluster_core.proofs.SafeStories.{acknowledge_theirs}
use Rattle.cluster_core.proofs.safety.stories_are_safe.Goals as goal

pub returns : goal.returns
returns c = λ s legal.
    let marks = map marked_of s.entries in
    let theirs = acknowledge_theirs s.records legal.recorded in
    record {
      fits = c.offers_and_tasks_fit.ensures s.setup s.records marks legal.good;
      origin = c.each_task_has_its_origin.ensures s.setup s.records marks legal.good;
      trail = record { covered = c.tasks_have_their_origin.ensures s.setup s.records marks legal.good; traced = c.marks_come_from_entries.ensures s.setup s.records marks };
      acks = c.acks_come_from_owners.ensures s.setup s.records marks legal.good;
      acknowledged = record {
        owners = c.agents_count_what_owners_acknowledged.ensures s.setup s.records marks legal.good;
        most = λ key. c.acknowledged_updates_only_grow.ensures.most s.setup s.records marks key legal.good theirs;
        counted = c.acknowledged_updates_only_grow.ensures.counted s.setup s.records marks legal.good theirs;
      };
      recorded = c.acknowledged_by_the_owner.ensures s.setup s.records marks legal.good;
      issued = c.all_commands_are_issued_in_order.ensures.issued s.setup s.records marks legal.good;
      in_order = λ framework key honest is_key. c.acknowledgements_are_prefixes.ensures s.setup s.records marks framework key legal.good theirs honest is_key;
      room = c.agents_have_room.ensures s.setup s.records marks legal.good;
    }
