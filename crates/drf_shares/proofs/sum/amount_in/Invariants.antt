use Rattle.std.proofs.Common.{◌≡◌, drop}
use Rattle.drf_shares.specs.Sums.{first_amount}
use Rattle.drf_shares.proofs.sum.amount_in.Given as goal

abbrev pub invariant-loop-row : goal.invariant-loop-row
invariant-loop-row l = first_amount l.name (drop l.row-index l.rows) ≡ first_amount l.name l.rows
