use Rattle.std.proofs.Common.{◌≡◌, take}
use Rattle.quantity.specs.Rows.{rest_of}
use Rattle.drf_shares.proofs.sum.without_sum.Given as goal

abbrev pub invariant-loop-row : goal.invariant-loop-row
invariant-loop-row l = l.rest.items ≡ rest_of (take l.row-index l.rows) l.less
