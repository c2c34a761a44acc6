use Rattle.std.proofs.Common.{rules, ◌≡◌, length}
use Rattle.sqlite.specs.Held.{state}
use Rattle.keep_store.specs.SavesKept.{HasNoTask}
use Rattle.keep_tables.specs.Tables.{IsSame, SparesOthers}
use Rattle.keep_tables.proofs.StoreLemmas.{then_on, then_err}
use Rattle.keep_store.proofs.SaveLemmas.{no_task_left}
use Rattle.keep_store.proofs.StepLemmas.{clean_before, both_went, on_keeps, quiet_then, Both}
use Rattle.keep_store.proofs.saves.seen.forget_tasks.Goals as goal

pub returns-in-Ok-clause-quiet : goal.returns-in-Ok-clause-quiet
returns-in-Ok-clause-quiet g c = quiet_then _ _ _ c.clear_tasks.ensures.quiet c.read_places.ensures.quiet

pub returns-in-Ok-clause-went : goal.returns-in-Ok-clause-went
returns-in-Ok-clause-went g c = λ writing clean.
    let s0 = state g.S.Store c.args.tx.now.conn.now in
    let s1 = state g.S.Store c.clear_tasks.new.tx.conn.now in
    let s2 = state g.S.Store c.read_places.new.tx.conn.now in
    let first = c.in_default.ensures.went writing (clean_before s1 s2 c.read_places.ensures.quiet clean) in
    let second = c.in-Ok.ensures.went first.writing clean in
    let ids = c.in-Ok.ensures.rows first.writing clean in
    let none : length c.in-Ok.left.items ≡ 0 = search rules in
    then_on (SparesOthers 3) IsSame HasNoTask s0 s1 s2 first second (λ p q. no_task_left c.in-Ok.left.items s0.now.trees s1.now.trees s2.now.trees p ids q none)

pub returns-in-Ok-2-clause-quiet : goal.returns-in-Ok-2-clause-quiet
returns-in-Ok-2-clause-quiet g c = quiet_then _ _ _ c.clear_tasks.ensures.quiet c.read_places.ensures.quiet

pub returns-in-Ok-2-clause-went : goal.returns-in-Ok-2-clause-went
returns-in-Ok-2-clause-went g c = λ writing clean.
    let s0 = state g.S.Store c.args.tx.now.conn.now in
    let s1 = state g.S.Store c.clear_tasks.new.tx.conn.now in
    let s2 = state g.S.Store c.read_places.new.tx.conn.now in
    on_keeps (Both (SparesOthers 3) IsSame) s0 s2 writing (both_went (SparesOthers 3) s0 s1 s2 c.in_default.ensures.went c.read_places.ensures.quiet IsSame c.in-Ok-2.ensures.went writing clean)

pub returns-in-Err-read_places-clause-quiet : goal.returns-in-Err-read_places-clause-quiet
returns-in-Err-read_places-clause-quiet g c = quiet_then _ _ _ c.clear_tasks.ensures.quiet c.read_places.ensures.quiet

pub returns-in-Err-read_places-clause-went : goal.returns-in-Err-read_places-clause-went
returns-in-Err-read_places-clause-went g c = λ writing clean.
    let s0 = state g.S.Store c.args.tx.now.conn.now in
    let s1 = state g.S.Store c.clear_tasks.new.tx.conn.now in
    let s2 = state g.S.Store c.read_places.new.tx.conn.now in
    let first = c.in_default.ensures.went writing (clean_before s1 s2 c.read_places.ensures.quiet clean) in
    then_err (SparesOthers 3) s0 s1 s2 writing first (c.in-Err-read_places.ensures.went first.writing clean)
