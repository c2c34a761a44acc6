use Rattle.std.proofs.Common.{◌++◌, ◌+◌, drop, append_assoc, ap, sym, ◌∙◌, subst, arith}
use Rattle.std.specs.List.Sorted.{IsStrictlySortedBy}
use Rattle.quantity.specs.Rows.{IsRow, name_order, plus_rows}
use Rattle.quantity.specs.Merging.{count_below, rows_from, rows_past, sum_upto}
use Rattle.quantity.proofs.Walks.{ordered_drop, all_drop, plus_step, row_at, rows_past_are, length-drop_le, length-rows_past}
use Rattle.quantity.proofs.rows.merged.Goals as goal

pub loop-other-preserved : goal.loop-other-preserved
loop-other-preserved c =
    let rest = c.loop-other.rest.now in
    let sum = c.loop-other.sum.items in
    let o = c.other-item.result in
    let behind = drop (c.loop-other.other-index + 1) c.args.others.now in
    let here = row_at c.args.others.now c.loop-other.other-index o c.loop-other-test.true c.other-item.is in
    let ordered = subst (IsStrictlySortedBy name_order) here (ordered_drop c.loop-other.other-index c.args.others.now c.requires.others_are.ordered) in
    let from = rows_from o.name rest in
    let past = rows_past o.name from in
    record {
      few = rw c.in_ok-rest.ensures.behind
          (omega (arith, length-rows_past o.name from, length-drop_le (count_below o.name rest) rest, c.loop-other.invariant.few));
      are = rw c.in_ok-rest.ensures.behind (rows_past_are o.name from (all_drop IsRow (count_below o.name rest) rest c.loop-other.invariant.are));
      same = rw (c.in_ok-rest.ensures.sum, c.in_ok-rest.ensures.behind)
          (append_assoc sum (sum_upto rest o) (plus_rows past behind) ∙ ap (λ xs. sum ++ xs) (sym (plus_step rest o behind ordered) ∙ ap (plus_rows rest) (sym here))
          ∙ c.loop-other.invariant.same);
    }
