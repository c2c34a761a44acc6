use Rattle.std.proofs.Common.{◌≡◌, drop, false}
use Rattle.master_agents.specs.Looks.{value_of}
use Rattle.master_agents.proofs.by_name.is_open_of.Given as goal

abbrev pub invariant-loop-entry : goal.invariant-loop-entry
invariant-loop-entry l = value_of l.name (λ s. s.is_open) false (drop l.entry-index l.entries) ≡ value_of l.name (λ s. s.is_open) false l.entries
