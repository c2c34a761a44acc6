use Rattle.std.proofs.Common.{◌≡◌, drop}
use Rattle.offer_tables.specs.Rows.{left_at}
use Rattle.offer_tables.proofs.free_part.FreePart.of.Given as goal

abbrev pub invariant-loop-place : goal.invariant-loop-place
invariant-loop-place l =
    left_at l.name l.total l.self ≡ left_at l.name (drop l.place l.total) (drop l.place l.self)
