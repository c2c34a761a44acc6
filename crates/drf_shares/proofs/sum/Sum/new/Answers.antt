use Rattle.drf_shares.proofs.Summing.{no_sum}
use Rattle.drf_shares.proofs.sum.Sum.new.Goals as goal

pub invariant_of-result : goal.invariant_of-result
invariant_of-result c = rw c.new.ensures.items no_sum
