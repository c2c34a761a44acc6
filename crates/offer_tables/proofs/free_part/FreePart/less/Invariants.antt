use Rattle.std.proofs.Common.{◌≡◌, List, ◌++◌, map, take}
use Rattle.arrayvec.specs.ArrayVec.{array_vec_len}
use Rattle.quantity.specs.declared.rows.Row.{Row}
use Rattle.offer_tables.specs.Rows.{amounts_left, left_in}
use Rattle.offer_tables.proofs.free_part.FreePart.less.Given as goal

abbrev pub invariant-loop-place : goal.invariant-loop-place
invariant-loop-place l =
    record {
      left : (taken : List Row) → l.self ≡ amounts_left l.total taken → l.amounts.items ≡ map (left_in (l.more ++ taken)) (take l.place l.total);
      many : array_vec_len l.amounts ≡ l.place;
    }
