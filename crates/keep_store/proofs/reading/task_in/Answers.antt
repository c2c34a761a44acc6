use Rattle.std.proofs.Common.{◌≡◌, Some}
use Rattle.event_json.specs.Reading.{task_in}
use Rattle.keep_store.proofs.ToldLemmas.{told_from}
use Rattle.keep_store.proofs.reading.task_in.Goals as goal

pub returns-clause-read_back : goal.returns-clause-read_back
returns-clause-read_back c =
    let read : task_in _ ≡ Some c.in_ok-task.task = rw c.as_str.ensures.value at c.in_ok-task.ensures.read_back in
    told_from c.args.row.now _ _ _ c.in_ok-task.task c.in_ok-run.ensures c.in_ok-number.ensures c.in_ok-body.ensures read (cc) (cc)
