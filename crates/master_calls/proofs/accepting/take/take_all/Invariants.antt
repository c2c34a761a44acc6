use Rattle.std.proofs.Common.{◌≡◌, ◌≤◌, ◌+◌, take, fold}
use Rattle.master_calls.specs.Accepts.{bench, takes_one}
use Rattle.master_calls.proofs.accepting.take.take_all.Given as goal

abbrev pub invariant-loop-task : goal.invariant-loop-task
invariant-loop-task l =
    record {
      taken : bench l.state l.progress ≡ fold (takes_one l.caller l.agent) (bench l.fn.state l.fn.progress) (take l.task-index l.tasks);
      keys : l.progress.last_key ≤ l.fn.progress.last_key + l.task-index;
    }
