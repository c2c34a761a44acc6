use Rattle.std.proofs.Common.{◌≡◌, [], map, take}
use Rattle.arrayvec.specs.ArrayVec.{array_vec_len}
use Rattle.offer_tables.specs.Rows.{left_in}
use Rattle.offer_tables.proofs.free_part.FreePart.whole.Given as goal

abbrev pub invariant-loop-row : goal.invariant-loop-row
invariant-loop-row l =
    record {
      left : l.amounts.items ≡ map (left_in []) (take l.row-index l.total);
      many : array_vec_len l.amounts ≡ l.row-index;
    }
