use Rattle.std.proofs.Common.{◌≡◌, ◌+◌, drop, nat_le}
use Rattle.std.specs.List.{list_all}
use Rattle.quantity.specs.Rows.{amount}
use Rattle.drf_shares.specs.Sums.{fits_all, greatest_sum}
use Rattle.drf_shares.proofs.sum.fits_all.Given as goal

abbrev pub invariant-loop-row : goal.invariant-loop-row
invariant-loop-row l = list_all (λ r. nat_le (amount r.name l.sum + r.amount) greatest_sum) (drop l.row-index l.more) ≡ fits_all l.sum l.more
