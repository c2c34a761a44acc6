use Rattle.std.proofs.Common.{◌≡◌, drop, not}
use Rattle.std.specs.List.{list_any}
use Rattle.cluster_model.specs.Masters.{has_returned}
use Rattle.master_agents.proofs.look.is_any_awaited.Given as goal

abbrev pub invariant-loop-entry : goal.invariant-loop-entry
invariant-loop-entry l = list_any (λ s. not (has_returned s)) (drop l.entry-index l.entries) ≡ list_any (λ s. not (has_returned s)) l.entries
