use Rattle.std.proofs.Common.{◌≡◌, ℕ, List, map, take}
use Rattle.quantity.specs.declared.rows.Row.{Row}
use Rattle.quantity.specs.Rows.{amount, left_of}
use Rattle.offer_tables.specs.Rows.{amounts_left}
use Rattle.offer_tables.proofs.free_part.FreePart.to_resources.Given as goal

abbrev pub invariant-loop-place : goal.invariant-loop-place
invariant-loop-place l =
    (taken : List Row) → l.self ≡ amounts_left l.total taken → (q : List ℕ) → amount q l.rest ≡ amount q (map (left_of taken) (take l.place l.total))
