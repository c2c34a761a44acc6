use Rattle.std.proofs.Common.{nat_lt, ap, ◌∙◌}
use Rattle.quantity.specs.Rows.{amount}
use Rattle.drf_shares.proofs.Summing.{first_is}
use Rattle.drf_shares.proofs.sum.Sum.has_some.Goals as goal

pub returns : goal.returns
returns c =
    ap (nat_lt 0) (c.amount_of.ensures
    ∙ (rw c.deref.ensures.value (first_is c.args.name.now c.self.inside.rows.items c.self.invariant.ordered) ∙ ap (amount c.args.name.now) c.self.view_is))
