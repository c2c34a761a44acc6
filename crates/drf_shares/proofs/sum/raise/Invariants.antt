use Rattle.std.proofs.Common.{◌≡◌, ◌++◌, take, drop}
use Rattle.drf_shares.specs.Sums.{raised}
use Rattle.drf_shares.proofs.sum.raise.Given as goal

-- the rows so far stay, and what the rest becomes is what is missing
abbrev pub invariant-loop-i : goal.invariant-loop-i
invariant-loop-i l =
    (l.rows.items ≡ l.fn.rows.items) ×
    (take l.i l.fn.rows.items ++ raised l.more.name l.more.amount (drop l.i l.fn.rows.items) ≡ raised l.more.name l.more.amount l.fn.rows.items)
