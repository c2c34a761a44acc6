use Rattle.std.proofs.Common.{◌≡◌, drop}
use Rattle.quantity.specs.Rows.{covers}
use Rattle.quantity.proofs.Walks.{Serves, fit}
use Rattle.quantity.proofs.rows.covers.Given as goal

abbrev pub invariant-loop-row : goal.invariant-loop-row
invariant-loop-row l =
    record {
      serves : Serves l.total l.rest (drop l.row-index l.rows);
      same : fit l.total (drop l.row-index l.rows) ≡ covers l.total l.rows;
    }
