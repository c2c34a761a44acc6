use Rattle.std.proofs.Common.{◌≡◌, drop}
use Rattle.agent_core.specs.Records.{rise_behind, keys_rise}
use Rattle.agent_core.proofs.record.keys_rise.Given as goal

abbrev pub invariant-loop-task : goal.invariant-loop-task
invariant-loop-task l = rise_behind l.last (drop l.task-index l.tasks) ≡ keys_rise l.tasks
