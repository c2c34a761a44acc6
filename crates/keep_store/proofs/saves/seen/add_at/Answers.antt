use Rattle.std.proofs.Common.{arith, ◌≡◌, ◌⊎◌, ◌≤◌, ◌+◌, ◌∷◌, [], List, MatchResult, Some, length, take, subst, sym, ap, ◌∙◌}
use Rattle.std.proofs.lemmas.Result.{MatchResult-weaker, on_ok_weaker}
use Rattle.std.specs.List.{AllByRecursion}
use Rattle.sqlite.specs.Held.{state}
use Rattle.sqlite.specs.State.{KeepsCommit}
use Rattle.sqlite_rules.specs.Lists.{Has}
use Rattle.messages.specs.declared.record.RecordedTask.{RecordedTask}
use Rattle.keep_store.specs.SavesKept.{Adds, HasTasks, IsPut}
use Rattle.keep_tables.specs.Tables.{WritesOn}
use Rattle.keep_store.proofs.SeenLemmas.{add_tasks, put_all, put_front, put_known}
use Rattle.keep_store.proofs.StepLemmas.{on_any, quiet_itself}
use Rattle.keep_store.proofs.saves.seen.add_at.Goals as goal

pub returns-clause-went : goal.returns-clause-went
returns-clause-went g c = λ writing clean.
    let old = state g.S.Store c.args.tx.now.conn.now in
    let new = state g.S.Store c.add_task.new.tx.conn.now in
    let tasks = c.args.tasks.now.items in
    let task = c.args.task.now in
    let r = c.add_task.result in
    let done = subst (λ (added : RecordedTask). MatchResult r (λ _. WritesOn (Adds (added ∷ [])) old new) (λ _. KeepsCommit old new)) c.deref.ensures (c.add_task.ensures.went writing clean) in
    MatchResult-weaker r done (λ _ one. record {
      writing = one.writing;
      committed = one.committed;
      changes = subst (λ (left : List RecordedTask). HasTasks (Some tasks) left old.now.trees new.now.trees) (sym c.in_ok-insert_shared.ensures.put)
          (add_tasks tasks c.args.at task old.now.trees new.now.trees one.changes);
    }) (λ _ kept. kept)

pub returns-clause-still_put : goal.returns-clause-still_put
returns-clause-still_put g c =
    let tasks = c.args.tasks.now.items in
    on_ok_weaker c.add_task.result (λ is. subst (AllByRecursion IsPut) (sym c.in_ok-insert_shared.ensures.put) (put_all IsPut tasks c.args.at c.args.task.now c.requires.are_put (subst IsPut c.deref.ensures is))) c.add_task.ensures.is_put

pub returns-clause-front : goal.returns-clause-front
returns-clause-front g c =
    let tasks = c.args.tasks.now.items in
    let within : c.args.at ≤ length tasks = omega arith in
    on_any c.add_task.result (ap (take (c.args.at + 1)) c.in_ok-insert_shared.ensures.put ∙ put_front tasks c.args.at c.args.task.now within)

pub returns-clause-known : goal.returns-clause-known
returns-clause-known g c =
    let tasks = c.args.tasks.now.items in
    let task = c.args.task.now in
    on_any c.add_task.result (subst (AllByRecursion (λ (other : RecordedTask). (other ≡ task) ⊎ Has tasks other)) (sym c.in_ok-insert_shared.ensures.put) (put_known tasks c.args.at task))

pub returns-in_err-insert_shared-clause-quiet : goal.returns-in_err-insert_shared-clause-quiet
returns-in_err-insert_shared-clause-quiet g c = quiet_itself _
