use Rattle.std.proofs.Common.{◌≡◌, take}
use Rattle.arrayvec.specs.ArrayVec.{array_vec_len}
use Rattle.offer_tables.proofs.free_part.FreePart.copied.Given as goal

abbrev pub invariant-loop-amount : goal.invariant-loop-amount
invariant-loop-amount l =
    record {
      same : l.amounts.items ≡ take l.amount-index l.self;
      many : array_vec_len l.amounts ≡ l.amount-index;
    }
