use Rattle.std.proofs.Common.{◌≡◌, ◌≤◌, ◌++◌, length, drop}
use Rattle.std.specs.List.{AllByRecursion}
use Rattle.quantity.specs.Rows.{IsRow, plus_rows}
use Rattle.quantity.proofs.rows.merged.Given as goal

abbrev pub invariant-loop-other : goal.invariant-loop-other
invariant-loop-other l =
    record {
      few : length l.rest ≤ length l.rows;
      are : AllByRecursion IsRow l.rest;
      same : l.sum.items ++ plus_rows l.rest (drop l.other-index l.others) ≡ plus_rows l.rows l.others;
    }
