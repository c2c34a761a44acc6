use Rattle.std.proofs.Common.{List, sym, subst}
use Rattle.quantity.specs.declared.rows.Row.{Row}
use Rattle.drf_shares.specs.Sums.{CanAdd}
use Rattle.drf_shares.proofs.Summing.{rows_positive, sum_is}
use Rattle.drf_shares.proofs.sum.Sum.plus.Goals as goal

pub invariant_of-result : goal.invariant_of-result
invariant_of-result c =
    let more = c.args.more.now in
    let can = subst (λ (rows : List Row). CanAdd rows more) (sym c.self.view_is) c.requires in
    rw (c.in_ok-rows.ensures, c.deref.ensures.value, c.rows.ensures.rows) (sum_is c.self.inside.rows.items more c.self.invariant (rows_positive more c.rows.ensures.ordered.each) can)
