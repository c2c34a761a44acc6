use Rattle.std.proofs.Common.{◌≡◌, true, List, map, take}
use Rattle.arrayvec.specs.ArrayVec.{array_vec_len}
use Rattle.quantity.specs.declared.rows.Row.{Row}
use Rattle.quantity.specs.Rows.{covers, IsPlus}
use Rattle.offer_tables.specs.Rows.{amounts_left, left_in}
use Rattle.offer_tables.proofs.free_part.FreePart.with_back.Given as goal

abbrev pub invariant-loop-place : goal.invariant-loop-place
invariant-loop-place l =
    record {
      left : (taken others : List Row) → l.self ≡ amounts_left l.total taken → covers l.total taken ≡ true → IsPlus taken others l.more → l.amounts.items ≡ map (left_in others) (take l.place l.total);
      many : array_vec_len l.amounts ≡ l.place;
    }
