use Rattle.std.proofs.Common.{◌≡◌, get_or, subst}
use Rattle.sqlite_rules.specs.Lists.{Has}
use Rattle.sqlite_rules.proofs.ListLemmas.{has_at}
use Rattle.keep_store.proofs.saves.seen.stands_at.Goals as goal

pub returns-then-at-tasks : goal.returns-then-at-tasks
returns-then-at-tasks c = λ same.
    let tasks = c.args.tasks.now in
    let task = c.index-tasks-at.result in
    let is : task ≡ get_or tasks c.args.at task = c.index-tasks-at.is in
    let equal : task ≡ c.args.task.now = c.is_same.ensures.0 same in
    subst (Has tasks) equal (has_at tasks c.args.at task c.if-at-tasks.true is)
