use Rattle.std.proofs.Common.{◌≡◌, true, take, drop}
use Rattle.std.specs.List.{AllByRecursion}
use Rattle.drf_shares.specs.Sums.{is_reached, plus_rows}
use Rattle.drf_shares.proofs.sum.raise_all.Given as goal

abbrev pub invariant-loop-row : goal.invariant-loop-row
invariant-loop-row l =
    (l.rows.items ≡ plus_rows l.fn.rows.items (take l.row-index l.more)) ×
    AllByRecursion (λ r. is_reached r.name l.rows.items ≡ true) (drop l.row-index l.more)
