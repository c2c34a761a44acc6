use Rattle.std.proofs.Common.{◌∙◌, Some, length, subst}
use Rattle.std.specs.List.{AllByRecursion}
use Rattle.sqlite.specs.Held.{state}
use Rattle.keep_store.specs.SavesKept.{HasTasks, IsPut}
use Rattle.keep_store.proofs.SeenLemmas.{all_front, then_tasks, wanted_tasks}
use Rattle.keep_store.proofs.StepLemmas.{both_went, failed_then, quiet_then}
use Rattle.keep_store.proofs.saves.seen.fit_tasks.Goals as goal

pub returns-in_err-add_others-clause-quiet : goal.returns-in_err-add_others-clause-quiet
returns-in_err-add_others-clause-quiet g c = quiet_then _ _ _ c.cut_others.ensures.quiet c.add_others.ensures.quiet

pub returns-in_err-add_others-clause-went : goal.returns-in_err-add_others-clause-went
returns-in_err-add_others-clause-went g c =
    let s0 = state g.S.Store c.args.tx.now.conn.now in
    let s1 = state g.S.Store c.cut_others.new.tx.conn.now in
    let s2 = state g.S.Store c.add_others.new.tx.conn.now in
    let begun = c.args.tasks.now.items in
    failed_then (HasTasks (Some begun) c.cut_others.new.tasks.items) s0 s1 s2 c.in_ok-cut_others.ensures.went c.add_others.ensures.quiet (HasTasks (Some begun) c.args.wanted.now) c.from_residual-in_err-add_others.result c.from_residual-in_err-add_others.ensures.0 c.in_err-add_others.ensures.went

pub returns-clause-quiet : goal.returns-clause-quiet
returns-clause-quiet g c = quiet_then _ _ _ c.cut_others.ensures.quiet c.add_others.ensures.quiet

pub returns-clause-went : goal.returns-clause-went
returns-clause-went g c = λ writing clean.
    let s0 = state g.S.Store c.args.tx.now.conn.now in
    let s1 = state g.S.Store c.cut_others.new.tx.conn.now in
    let s2 = state g.S.Store c.add_others.new.tx.conn.now in
    let begun = c.args.tasks.now.items in
    let left = c.cut_others.new.tasks.items in
    let wanted = c.args.wanted.now in
    let tasks = c.add_others.new.tasks.items in
    let both = both_went (HasTasks (Some begun) left) s0 s1 s2 c.in_ok-cut_others.ensures.went c.add_others.ensures.quiet (HasTasks (Some left) tasks) c.in_ok-add_others.ensures.went writing clean in
    record {
      writing = both.writing;
      committed = both.committed;
      changes = wanted_tasks (Some begun) tasks wanted s0.now.trees s2.now.trees c.in_ok-add_others.ensures.front c.in_ok-add_others.ensures.still_among
          (then_tasks (Some begun) left tasks s0.now.trees both.changes.0 s2.now.trees both.changes.1 both.changes.2);
    }

pub returns-clause-tasks : goal.returns-clause-tasks
returns-clause-tasks g c =
    let wanted = c.args.wanted.now in
    let tasks = c.add_others.new.tasks.items in
    let front = c.in_ok-add_others.ensures.front in
    (c.truncate.ensures.items ∙ front, subst (AllByRecursion IsPut) front (all_front IsPut (length wanted) tasks c.in_ok-add_others.ensures.still_put))
