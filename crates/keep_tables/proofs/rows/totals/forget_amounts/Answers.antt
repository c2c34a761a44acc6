use Rattle.std.proofs.Common.{rules, ◌≡◌, length, arith}
use Rattle.sqlite.specs.Held.{state}
use Rattle.sqlite.specs.State.{HasCleanDisk}
use Rattle.keep_tables.specs.Totals.{HasNoAmount}
use Rattle.keep_tables.specs.Tables.{AreIds, IsSame, SparesOthers, WritesOn}
use Rattle.keep_tables.proofs.TotalLemmas.{no_amount_left}
use Rattle.keep_tables.proofs.StoreLemmas.{then_on}
use Rattle.keep_tables.proofs.rows.totals.forget_amounts.Goals as goal

pub returns-then-is_empty-clause-went : goal.returns-then-is_empty-clause-went
returns-then-is_empty-clause-went g c = λ writing clean.
    let old = state g.S.Store c.args.tx.now.conn.now in
    let mid = state g.S.Store c.clear_amounts.new.tx.conn.now in
    let new = state g.S.Store c.read_amount_places.new.tx.conn.now in
    let cleaned : HasCleanDisk mid = omega (arith, c.read_amount_places.ensures.quiet.clean) in
    let went = c.clear_amounts.ensures.went writing cleaned in
    let first : WritesOn (SparesOthers 5) old mid = search rules in
    let looked = c.read_amount_places.ensures.went first.writing clean in
    let second : WritesOn IsSame mid new = search rules in
    let shown = c.read_amount_places.ensures.rows first.writing clean in
    let ids : AreIds c.in_ok-left.left.items (mid.now.trees 5) = search rules in
    let none : length c.in_ok-left.left.items ≡ 0 = search rules in
    then_on (SparesOthers 5) IsSame HasNoAmount old mid new first second (λ p q. no_amount_left c.in_ok-left.left.items old.now.trees mid.now.trees new.now.trees p ids q none)
