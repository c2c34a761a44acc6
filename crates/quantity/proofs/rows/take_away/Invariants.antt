use Rattle.std.proofs.Common.{◌≡◌, ◌++◌, map, take, drop}
use Rattle.quantity.specs.Rows.{left_of}
use Rattle.quantity.proofs.Walks.{Serves}
use Rattle.quantity.proofs.rows.take_away.Given as goal

abbrev pub invariant-loop-row : goal.invariant-loop-row
invariant-loop-row l =
    record {
      serves : Serves l.others l.rest (drop l.row-index l.initial.rows);
      same : l.rows ≡ map (left_of l.others) (take l.row-index l.initial.rows) ++ drop l.row-index l.initial.rows;
    }
