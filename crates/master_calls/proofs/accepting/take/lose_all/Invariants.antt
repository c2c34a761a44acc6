use Rattle.std.proofs.Common.{◌≡◌, take, fold}
use Rattle.master_calls.specs.Accepts.{loses_one}
use Rattle.master_calls.proofs.accepting.take.lose_all.Given as goal

abbrev pub invariant-loop-task : goal.invariant-loop-task
invariant-loop-task l = l.state ≡ fold (loses_one l.caller) l.fn.state (take l.task-index l.tasks)
