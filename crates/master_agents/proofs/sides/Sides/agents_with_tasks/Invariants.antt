use Rattle.std.proofs.Common.{◌≡◌, ◌++◌}
use Rattle.master_agents.proofs.Owning.{names_with_tasks}
use Rattle.master_agents.proofs.sides.Sides.agents_with_tasks.Given as goal

abbrev pub invariant-loop-side : goal.invariant-loop-side
invariant-loop-side l = l.names ++ names_with_tasks l.framework l.side-iterator ≡ names_with_tasks l.framework l.self
