use Rattle.std.specs.Prelude.{⊤}
use Rattle.sqlite.specs.Held.{state}
use Rattle.sqlite.specs.State.{KeepsCommit}
use Rattle.keep_store.specs.SavesKept.{HasRecord, IsHead}
use Rattle.keep_tables.specs.Tables.{WritesOn}
use Rattle.keep_store.proofs.SaveLemmas.{record_went}
use Rattle.keep_store.proofs.StepLemmas.{and_any, and_err, and_match, quiet_then}
use Rattle.keep_store.proofs.saves.save.write_rows.Goals as goal

pub returns-clause-quiet : goal.returns-clause-quiet
returns-clause-quiet g c = quiet_then _ _ _ c.write_tasks.ensures.quiet c.write_head-written.ensures.quiet

pub returns-clause-went : goal.returns-clause-went
returns-clause-went g c = λ writing clean.
    let s0 = state g.S.Store c.args.tx.now.conn.now in
    let s1 = state g.S.Store c.write_tasks.new.tx.conn.now in
    let s2 = state g.S.Store c.write_head-written.new.tx.conn.now in
    let seen = c.args.seen in
    let head = c.args.head.now in
    let d = c.args.durable.now in
    let r = c.write_head-written.result in
    let put = rw c.as_slice.ensures at c.in_ok-tasks.ensures.tasks in
    let first = rw c.as_slice.ensures at c.in_ok-tasks.ensures.went in
    let done = record_went seen head d s0 s1 s2 r put.1 first c.write_head-written.ensures.quiet c.write_head-written.ensures.went c.write_head-written.ensures.head in
    and_match r c.in_ok-tasks.tasks c.and.result (λ _. WritesOn (HasRecord seen head d) s0 s2) (λ _. WritesOn (HasRecord seen head d) s0 s2) (λ _. KeepsCommit s0 s2) c.and.ensures (done writing clean) (λ _ h. h)

pub returns-clause-tasks : goal.returns-clause-tasks
returns-clause-tasks g c =
    let put = rw c.as_slice.ensures at c.in_ok-tasks.ensures.tasks in
    and_any c.write_head-written.result c.in_ok-tasks.tasks c.and.result _ c.and.ensures put

pub returns-clause-head : goal.returns-clause-head
returns-clause-head g c =
    let d = c.args.durable.now in
    and_match c.write_head-written.result c.in_ok-tasks.tasks c.and.result (λ _. IsHead d) (λ _. IsHead d) (λ _. ⊤) c.and.ensures c.write_head-written.ensures.head (λ _ h. h)

pub returns-clause-undamaged : goal.returns-clause-undamaged
returns-clause-undamaged g c = and_err c.write_head-written.result c.in_ok-tasks.tasks c.and.result _ c.and.ensures c.write_head-written.ensures.undamaged

pub returns-clause-unspent : goal.returns-clause-unspent
returns-clause-unspent g c = and_err c.write_head-written.result c.in_ok-tasks.tasks c.and.result _ c.and.ensures c.write_head-written.ensures.unspent
