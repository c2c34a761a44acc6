use Rattle.std.proofs.Common.{◌≡◌, take}
use Rattle.drf_shares.specs.Sums.{plus_rows}
use Rattle.drf_shares.proofs.sum.with_rows.Given as goal

abbrev pub invariant-loop-row : goal.invariant-loop-row
invariant-loop-row l = l.sum.items ≡ plus_rows l.rows (take l.row-index l.more)
