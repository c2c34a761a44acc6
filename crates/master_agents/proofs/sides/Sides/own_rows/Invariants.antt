use Rattle.std.specs.List.{AllByRecursion}
use Rattle.quantity.specs.Rows.{AreRows}
use Rattle.master_agents.proofs.sides.Sides.own_rows.Given as goal

abbrev pub invariant-loop-side : goal.invariant-loop-side
invariant-loop-side l = AllByRecursion (λ s. AreRows s.total) l.side-iterator → AllByRecursion (λ s. AreRows s.total) l.self
