use Rattle.std.proofs.Common.{refl, arith, true, ◌≡◌, rules}
use Rattle.sqlite.specs.Held.{state}
use Rattle.sqlite.specs.State.{HasCleanDisk}
use Rattle.keep_store.specs.SavesKept.{HasRecord}
use Rattle.keep_tables.specs.Tables.{WritesOn}
use Rattle.keep_store.proofs.SaveLemmas.{failed_commit}
use Rattle.keep_store.proofs.saves.save.commit_record.Goals as goal

pub returns-in-Err-clause-failed : goal.returns-in-Err-clause-failed
returns-in-Err-clause-failed g c = λ ready clean.
    let old = state g.S.Store c.args.conn.now in
    let begun = state g.S.Store (record c.args.conn.now { in_transaction = true }) in
    let mid = state g.S.Store c.write_rows.new.tx.conn.now in
    let went = rw c.transaction-tx.ensures.begun at c.in_ok-tasks.ensures.went in
    let h = c.conn-2-1 in
    let same : c.commit.new.self.0 ≡ c.conn-2-1.given.0 = search rules in
    let cleaned : HasCleanDisk mid = omega (arith, (rw same at c.commit.ensures.survives).clean) in
    let done : WritesOn (HasRecord c.args.seen c.args.head.now c.args.durable.now) begun mid = went (record { is_open = ready.is_open; schema = ready.ours.schema; mode = refl }) cleaned in
    failed_commit (HasRecord c.args.seen c.args.head.now c.args.durable.now) old begun mid (state g.S.Store c.conn-2-1.given.0) c.in-Err.error ready done refl (rw same at c.in-Err.ensures.err clean)
