use Rattle.std.proofs.Common.{◌≡◌, drop, None, Some}
use Rattle.master_agents.specs.Looks.{value_of}
use Rattle.master_agents.proofs.by_name.closed_of.Given as goal

abbrev pub invariant-loop-entry : goal.invariant-loop-entry
invariant-loop-entry l = value_of l.name (λ s. Some s.closed) None (drop l.entry-index l.entries) ≡ value_of l.name (λ s. Some s.closed) None l.entries
