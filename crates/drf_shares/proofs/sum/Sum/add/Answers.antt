use Rattle.std.proofs.Common.{◌≡◌, true, List, sym, subst}
use Rattle.quantity.specs.declared.rows.Row.{Row}
use Rattle.drf_shares.specs.Sums.{CanAdd, has_names_of}
use Rattle.drf_shares.proofs.Summing.{rows_positive, sum_is}
use Rattle.drf_shares.proofs.Reaching.{each_reached}
use Rattle.drf_shares.proofs.sum.Sum.add.Goals as goal

pub raise_all-requires-clause-reached : goal.raise_all-requires-clause-reached
raise_all-requires-clause-reached c =
    let s = c.self.inside in
    let more = c.args.more.now in
    let has = subst (λ (rows : List Row). has_names_of rows more ≡ true) (sym c.self.view_is) c.requires.names in
    rw c.rows.ensures.rows (each_reached s.rows.items more c.self.invariant has)

pub invariant_of-self : goal.invariant_of-self
invariant_of-self c =
    let more = c.args.more.now in
    let can = subst (λ (rows : List Row). CanAdd rows more) (sym c.self.view_is) c.requires.room in
    rw (c.raise_all.ensures, c.rows.ensures.rows) (sum_is c.self.inside.rows.items more c.self.invariant (rows_positive more c.rows.ensures.ordered.each) can)
