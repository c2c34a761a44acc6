use Rattle.std.proofs.Common.{◌≤◌, ap, sym, subst, ◌∙◌}
use Rattle.quantity.specs.Rows.{amount}
use Rattle.drf_shares.specs.Sums.{greatest_sum}
use Rattle.drf_shares.proofs.Summing.{amount_few, first_is}
use Rattle.drf_shares.proofs.sum.Sum.amount.Goals as goal

pub returns-clause-amount : goal.returns-clause-amount
returns-clause-amount c =
    c.amount_in.ensures
    ∙ (rw c.deref.ensures.value (first_is c.args.name.now c.self.inside.rows.items c.self.invariant.ordered) ∙ ap (amount c.args.name.now) c.self.view_is)

pub returns-clause-range : goal.returns-clause-range
returns-clause-range c =
    subst (λ n. n ≤ greatest_sum) (sym (returns-clause-amount c)) (rw (sym c.self.view_is) (amount_few c.args.name.now c.self.inside.rows.items c.self.invariant))
