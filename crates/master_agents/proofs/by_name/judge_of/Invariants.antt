use Rattle.std.proofs.Common.{◌≡◌, drop, None}
use Rattle.cluster_model.specs.Mails.{in_session}
use Rattle.master_agents.specs.Looks.{value_of}
use Rattle.master_agents.proofs.by_name.judge_of.Given as goal

abbrev pub invariant-loop-entry : goal.invariant-loop-entry
invariant-loop-entry l = value_of l.name (λ s. in_session s l.session) None (drop l.entry-index l.entries) ≡ value_of l.name (λ s. in_session s l.session) None l.entries
