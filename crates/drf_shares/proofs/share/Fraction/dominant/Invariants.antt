use Rattle.std.proofs.Common.{◌≤◌, take}
use Rattle.drf_shares.specs.Dominant.{IsDominant}
use Rattle.drf_shares.specs.Sums.{greatest_sum}
use Rattle.drf_shares.proofs.share.Fraction.dominant.Given as goal

abbrev pub invariant-loop-row : goal.invariant-loop-row
invariant-loop-row l = IsDominant (take l.row-index l.totals) l.held (record { amount = l.most; total = l.total }) × (l.most ≤ greatest_sum) × (l.total ≤ greatest_sum)
