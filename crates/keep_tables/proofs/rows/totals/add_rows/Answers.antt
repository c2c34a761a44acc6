use Rattle.std.proofs.Common.{arith, ◌+◌, take, ap, ◌∙◌}
use Rattle.sqlite.specs.Held.{state}
use Rattle.sqlite.specs.State.{HasCleanDisk}
use Rattle.sqlite.proofs.StateLemmas.{survives_then}
use Rattle.keep_tables.specs.Tables.{Puts, WritesOn, amount_row}
use Rattle.keep_tables.specs.Totals.{PutsAmounts}
use Rattle.keep_tables.proofs.StoreLemmas.{then_on}
use Rattle.keep_tables.proofs.TotalLemmas.{named_more, puts_more}
use Rattle.keep_tables.proofs.rows.totals.add_rows.Goals as goal

pub loop-row-preserved : goal.loop-row-preserved
loop-row-preserved g c =
    let first = state g.S.Store c.args.tx.now.conn.now in
    let old = state g.S.Store c.loop-row.tx.conn.now in
    let new = state g.S.Store c.add_row.new.tx.conn.now in
    let rows = c.args.rows.now in
    let i = c.loop-row.row-index in
    let row = c.row-item.result in
    record {
      place = ap (λ n. n + 1) c.loop-row.invariant.place;
      named = named_more rows i row c.loop-row-test.true c.row-item.is c.loop-row.invariant.named c.in_ok-add_row.ensures.named;
      same_reference = c.in_ok-add_row.ensures.same_reference ∙ c.loop-row.invariant.same_reference;
      quiet = survives_then first old new _ _ _ (λ _ db none. none) (λ _ db none. none) c.loop-row.invariant.quiet c.in_ok-add_row.ensures.quiet;
      went = λ writing clean.
          let cleaned : HasCleanDisk old = omega (arith, c.in_ok-add_row.ensures.quiet.clean) in
          let before = c.loop-row.invariant.went writing cleaned in
          let step = c.in_ok-add_row.ensures.went before.writing clean in
          let put : WritesOn (Puts 5 (amount_row (i + 1) row.name row.amount)) old new = rw c.loop-row.invariant.place at step in
          then_on (PutsAmounts (take i rows)) (Puts 5 (amount_row (i + 1) row.name row.amount)) (PutsAmounts (take (i + 1) rows)) first old new before put
          (puts_more rows i row first.now.trees old.now.trees new.now.trees c.loop-row-test.true c.row-item.is);
    }
