use Rattle.std.proofs.Common.{◌≡◌, ℕ, List, false, cond, take}
use Rattle.names_core.specs.Ids.{Numbered}
use Rattle.offer_book.specs.Lists.{find}
use Rattle.offer_book.specs.Names.{is_among, is_named, keys_named}
use Rattle.offer_book.proofs.booked.forget_names.Given as goal

abbrev pub invariant-loop-key : goal.invariant-loop-key
invariant-loop-key l =
    (f : Numbered) (text : List ℕ) (k : Numbered) → is_among k (keys_named f text l.names)
    ≡ cond (is_among k (take l.key-index l.keys)) false (is_named f text (find (λ x. x.job.key) k l.tasks))
