use Rattle.std.proofs.Common.{◌≡◌, ◌++◌, map, take, drop}
use Rattle.cluster_model.specs.Masters.{clear_on}
use Rattle.master_state.proofs.registry.edit.clear_in.Given as goal

abbrev pub invariant-loop-i : goal.invariant-loop-i
invariant-loop-i l = l.frameworks.items ≡ map (clear_on l.agent) (take l.i l.fn.frameworks.items) ++ drop l.i l.fn.frameworks.items
