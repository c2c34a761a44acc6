use Rattle.std.proofs.Common.{◌≡◌, ◌+◌, drop, ap, sym, ◌∙◌, subst, arith}
use Rattle.std.specs.List.Sorted.{IsStrictlySortedBy}
use Rattle.quantity.specs.Rows.{amount, name_order}
use Rattle.quantity.proofs.Walks.{Serves, fit, covers_is_fit, serves_all, fit_more, fit_fails, ordered_drop, row_at, read_front, read_rest}
use Rattle.quantity.proofs.rows.covers.Goals as goal

pub loop-row-init : goal.loop-row-init
loop-row-init c =
    record {
      serves = serves_all c.args.total.now c.args.rows.now c.requires.total_ordered;
      same = sym (covers_is_fit c.args.total.now c.args.rows.now c.requires.rows_ordered);
    }

pub returns-then-front_amount-row : goal.returns-then-front_amount-row
returns-then-front_amount-row c =
    let total = c.args.total.now in
    let r = c.row-item.result in
    let behind = drop (c.loop-row.row-index + 1) c.args.rows.now in
    let here = row_at c.args.rows.now c.loop-row.row-index r c.loop-row-test.true c.row-item.is in
    let serves = subst (Serves total c.loop-row.rest.now) here c.loop-row.invariant.serves in
    let front : c.front_amount.result ≡ amount r.name total =
    read_front total c.loop-row.rest.now r behind _ _ _ c.as_str-name.ensures c.rows_from-rest.ensures c.front_amount.ensures serves in
    sym (fit_fails total r behind (omega (arith, front))) ∙ ap (fit total) (sym here) ∙ c.loop-row.invariant.same

pub loop-row-preserved : goal.loop-row-preserved
loop-row-preserved c =
    let total = c.args.total.now in
    let r = c.row-item.result in
    let behind = drop (c.loop-row.row-index + 1) c.args.rows.now in
    let here = row_at c.args.rows.now c.loop-row.row-index r c.loop-row-test.true c.row-item.is in
    let ordered = subst (IsStrictlySortedBy name_order) here (ordered_drop c.loop-row.row-index c.args.rows.now c.requires.rows_ordered) in
    let serves = subst (Serves total c.loop-row.rest.now) here c.loop-row.invariant.serves in
    let front : c.front_amount.result ≡ amount r.name total =
    read_front total c.loop-row.rest.now r behind _ _ _ c.as_str-name.ensures c.rows_from-rest.ensures c.front_amount.ensures serves in
    record {
      serves = read_rest total c.loop-row.rest.now r behind _ _ c.as_str-name.ensures c.rows_from-rest.ensures ordered serves;
      same = sym (fit_more total r behind (omega (arith, front))) ∙ ap (fit total) (sym here) ∙ c.loop-row.invariant.same;
    }
