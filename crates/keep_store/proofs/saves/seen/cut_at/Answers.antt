use Rattle.std.proofs.Common.{rules, arith, ◌≡◌, ◌<◌, length, List, Some, get_or, subst, sym}
use Rattle.sqlite.specs.Held.{state}
use Rattle.messages.specs.declared.record.RecordedTask.{RecordedTask}
use Rattle.keep_store.specs.SavesKept.{ArePut, HasTasks}
use Rattle.keep_tables.specs.Tables.{Cuts, WritesOn, place_of}
use Rattle.keep_store.proofs.SeenLemmas.{cut_tasks, gone_put}
use Rattle.keep_store.proofs.saves.seen.cut_at.Goals as goal

pub returns-in-Ok-clause-went : goal.returns-in-Ok-clause-went
returns-in-Ok-clause-went g c = λ writing clean.
    let old = state g.S.Store c.args.tx.now.conn.now in
    let new = state g.S.Store c.cut_task.new.tx.conn.now in
    let tasks = c.args.tasks.now.items in
    let task = c.deref.result.now in
    let is : task ≡ get_or tasks c.args.at task = search rules in
    let within : c.args.at < length tasks = omega arith in
    let done : WritesOn (Cuts (place_of task.job.key)) old new = c.in-Ok.ensures.went writing clean in
    record {
      writing = done.writing;
      committed = done.committed;
      changes = subst (λ (left : List RecordedTask). HasTasks (Some tasks) left old.now.trees new.now.trees) (sym c.remove.ensures.items)
          (cut_tasks tasks c.args.at task old.now.trees new.now.trees within is c.requires.are_put done.changes);
    }

pub returns-in-Ok-clause-still_put : goal.returns-in-Ok-clause-still_put
returns-in-Ok-clause-still_put g c = subst ArePut (sym c.remove.ensures.items) (gone_put c.args.tasks.now.items c.args.at c.requires.are_put)
