use Rattle.std.proofs.Common.{◌≡◌}
use Rattle.master_agents.proofs.Owning.{lacks}
use Rattle.master_agents.proofs.sides.Sides.lacks_numbers.Given as goal

abbrev pub invariant-loop-side : goal.invariant-loop-side
invariant-loop-side l = lacks l.framework l.side-iterator ≡ lacks l.framework l.self
