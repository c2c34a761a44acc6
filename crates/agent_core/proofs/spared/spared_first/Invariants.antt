use Rattle.std.proofs.Common.{◌≡◌, ◌≤◌, true, length, take}
use Rattle.std.specs.List.{list_all}
use Rattle.agent_core.specs.Spared.{spares}
use Rattle.agent_core.proofs.spared.spared_first.Given as goal

abbrev pub invariant-loop-i : goal.invariant-loop-i
invariant-loop-i l = (l.i ≤ length l.tasks) × (list_all (spares l.cause) (take l.i l.tasks) ≡ true)
