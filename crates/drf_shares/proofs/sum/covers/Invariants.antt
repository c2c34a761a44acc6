use Rattle.std.proofs.Common.{◌≡◌, drop, nat_le}
use Rattle.std.specs.List.{list_all}
use Rattle.quantity.specs.Rows.{amount, covers}
use Rattle.drf_shares.proofs.sum.covers.Given as goal

abbrev pub invariant-loop-row : goal.invariant-loop-row
invariant-loop-row l = list_all (λ r. nat_le (amount r.name l.less) (amount r.name l.sum)) (drop l.row-index l.less) ≡ covers l.sum l.less
