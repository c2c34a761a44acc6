use Rattle.std.proofs.Common.{◌≡◌}
use Rattle.quantity.specs.Rows.{plus_rows}
use Rattle.quantity.proofs.Sums.{sums_add_up, ordered_plus, rows_count, counts_plus, limits_kept}
use Rattle.quantity.proofs.resources.Resources.plus.Goals as goal

pub invariant_of-result : goal.invariant_of-result
invariant_of-result c =
    let rows = c.self.inside.rows.items in
    let others = c.other.inside.rows.items in
    let is : c.in_ok-rows.rows.items ≡ plus_rows rows others = rw (c.deref.ensures.value, c.deref-2.ensures.value) at c.in_ok-rows.ensures in
    limits_kept c.in_ok-rows.rows.items (rw is (ordered_plus rows others c.self.invariant.ordered))
    (rw is (counts_plus rows others (rows_count rows c.self.invariant.each) (rows_count others c.other.invariant.each))) c.in_ok-rows.rows.items
    (rw c.deref-3.ensures.value at c.in_ok-check_limits.ensures.ok)

pub returns-clause-sum : goal.returns-clause-sum
returns-clause-sum c = λ name.
    let is : c.in_ok-rows.rows.items ≡ plus_rows c.self.inside.rows.items c.other.inside.rows.items =
    rw (c.deref.ensures.value, c.deref-2.ensures.value) at c.in_ok-rows.ensures in
    rw (is, ← c.self.view_is, ← c.other.view_is) (sums_add_up c.self.inside.rows.items c.other.inside.rows.items name)
