use Rattle.std.proofs.Common.{Some}
use Rattle.sqlite.specs.Held.{state}
use Rattle.sqlite.specs.State.{KeepsCommit}
use Rattle.keep_store.specs.SavesKept.{HasTasks}
use Rattle.keep_tables.specs.Tables.{WritesOn}
use Rattle.keep_store.proofs.SeenLemmas.{then_tasks}
use Rattle.keep_store.proofs.StepLemmas.{and_err, and_match, quiet_then, went_then}
use Rattle.keep_store.proofs.saves.seen.write_tasks.Goals as goal

pub returns-clause-quiet : goal.returns-clause-quiet
returns-clause-quiet g c = quiet_then _ _ _ c.begin_tasks.ensures.quiet c.fit_tasks-fitted.ensures.quiet

pub returns-clause-went : goal.returns-clause-went
returns-clause-went g c = λ writing clean.
    let s0 = state g.S.Store c.args.tx.now.conn.now in
    let s1 = state g.S.Store c.begin_tasks.new.tx.conn.now in
    let s2 = state g.S.Store c.fit_tasks-fitted.new.tx.conn.now in
    let seen = c.args.seen in
    let begun = c.in_ok-tasks.tasks.items in
    let wanted = c.args.wanted.now in
    let done = went_then (HasTasks seen begun) s0 s1 s2 c.in_ok-tasks.ensures.went c.fit_tasks-fitted.ensures.quiet (HasTasks (Some begun) wanted) (HasTasks seen wanted) c.fit_tasks-fitted.result c.fit_tasks-fitted.ensures.went (then_tasks seen begun wanted) in
    and_match c.fit_tasks-fitted.result c.from_vec.result c.and.result (λ _. WritesOn (HasTasks seen wanted) s0 s2) (λ _. WritesOn (HasTasks seen wanted) s0 s2) (λ _. KeepsCommit s0 s2) c.and.ensures (done writing clean) (λ _ h. h)

pub returns-clause-undamaged : goal.returns-clause-undamaged
returns-clause-undamaged g c = and_err c.fit_tasks-fitted.result c.from_vec.result c.and.result _ c.and.ensures c.fit_tasks-fitted.ensures.undamaged

pub returns-clause-unspent : goal.returns-clause-unspent
returns-clause-unspent g c = and_err c.fit_tasks-fitted.result c.from_vec.result c.and.result _ c.and.ensures c.fit_tasks-fitted.ensures.unspent
