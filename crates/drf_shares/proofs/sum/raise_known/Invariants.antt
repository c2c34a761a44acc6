use Rattle.std.proofs.Common.{◌≡◌, ◌++◌, true, take, drop}
use Rattle.drf_shares.specs.Sums.{is_reached, raised}
use Rattle.drf_shares.proofs.sum.raise_known.Given as goal

-- the rows so far stay, what the rest becomes is what is missing, and the name is reached there
abbrev pub invariant-loop-i : goal.invariant-loop-i
invariant-loop-i l =
    ((l.rows.items ≡ l.fn.rows.items) ×
    (take l.i l.fn.rows.items ++ raised l.more.name l.more.amount (drop l.i l.fn.rows.items) ≡ raised l.more.name l.more.amount l.fn.rows.items)) ×
    (is_reached l.more.name (drop l.i l.fn.rows.items) ≡ true)
