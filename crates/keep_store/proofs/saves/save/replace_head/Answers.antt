use Rattle.sqlite.specs.Held.{state}
use Rattle.keep_store.specs.SavesKept.{ReplacesHead}
use Rattle.keep_tables.specs.Tables.{Empties, Puts, head_row}
use Rattle.keep_store.proofs.SaveLemmas.{head_replaced}
use Rattle.keep_store.proofs.StepLemmas.{Both, both_went, failed_then, quiet_then, went_then}
use Rattle.keep_store.proofs.saves.save.replace_head.Goals as goal

pub returns-in_err-clear_heads-clause-quiet : goal.returns-in_err-clear_heads-clause-quiet
returns-in_err-clear_heads-clause-quiet g c = quiet_then _ _ _ c.clear_records.ensures.quiet c.clear_heads.ensures.quiet

pub returns-in_err-clear_heads-clause-went : goal.returns-in_err-clear_heads-clause-went
returns-in_err-clear_heads-clause-went g c =
    let s0 = state g.S.Store c.args.tx.now.conn.now in
    let s1 = state g.S.Store c.clear_records.new.tx.conn.now in
    let s2 = state g.S.Store c.clear_heads.new.tx.conn.now in
    let row = head_row c.args.name.now c.args.run c.args.session in
    failed_then (Empties 0) s0 s1 s2 c.in_ok-clear_records.ensures.went c.clear_heads.ensures.quiet (ReplacesHead row) c.from_residual-in_err-clear_heads.result c.from_residual-in_err-clear_heads.ensures.0 c.in_err-clear_heads.ensures.went

pub returns-clause-quiet : goal.returns-clause-quiet
returns-clause-quiet g c = quiet_then _ _ _ (quiet_then _ _ _ c.clear_records.ensures.quiet c.clear_heads.ensures.quiet) c.put_head.ensures.quiet

pub returns-clause-went : goal.returns-clause-went
returns-clause-went g c =
    let s0 = state g.S.Store c.args.tx.now.conn.now in
    let s1 = state g.S.Store c.clear_records.new.tx.conn.now in
    let s2 = state g.S.Store c.clear_heads.new.tx.conn.now in
    let s3 = state g.S.Store c.put_head.new.tx.conn.now in
    let row = head_row c.args.name.now c.args.run c.args.session in
    let both = both_went (Empties 0) s0 s1 s2 c.in_ok-clear_records.ensures.went c.clear_heads.ensures.quiet (Empties 2) c.in_ok-clear_heads.ensures.went in
    went_then (Both (Empties 0) (Empties 2)) s0 s2 s3 both c.put_head.ensures.quiet (Puts 2 row) (ReplacesHead row) c.put_head.result c.put_head.ensures.went (λ x y z p r. head_replaced row x p.0 y z p.1 p.2 r)
