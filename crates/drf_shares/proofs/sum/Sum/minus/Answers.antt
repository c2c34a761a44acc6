use Rattle.drf_shares.proofs.Summing.{rest_is_sum}
use Rattle.drf_shares.proofs.sum.Sum.minus.Goals as goal

pub invariant_of-result : goal.invariant_of-result
invariant_of-result c =
    rw (c.in_ok-rows.ensures, c.deref.ensures.value) (rest_is_sum c.self.inside.rows.items c.args.less.now c.self.invariant)
