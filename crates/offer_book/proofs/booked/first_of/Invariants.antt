use Rattle.std.proofs.Common.{◌≡◌, take}
use Rattle.std.specs.Option.{option_copied}
use Rattle.offer_book.specs.Held.{first_of}
use Rattle.offer_book.proofs.booked.first_of.Given as goal

abbrev pub invariant-loop-key : goal.invariant-loop-key
invariant-loop-key l = option_copied l.best ≡ first_of l.tasks (take l.key-index l.keys)
