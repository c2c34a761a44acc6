use Rattle.std.proofs.Common.{◌≡◌, ◌≤◌, ◌*◌, ◌^◌, length, take}
use Rattle.offer_tables.specs.Held.{all_placed}
use Rattle.offer_tables.proofs.book.OfferBook.booked_count.Given as goal

abbrev pub invariant-loop-place : goal.invariant-loop-place
invariant-loop-place l = (l.count ≡ length (all_placed (take l.place l.self))) × (l.count ≤ l.place * 2 ^ 64)
