use Rattle.std.proofs.Common.{◌≡◌}
use Rattle.offer_tables.specs.Accounts.{without_offers_of}
use Rattle.offer_tables.proofs.Ridding.{mapped_to}
use Rattle.offer_tables.proofs.book.OfferBook.withdraw_of.Given as goal

abbrev pub invariant-loop-place : goal.invariant-loop-place
invariant-loop-place l = l.self ≡ mapped_to l.place (without_offers_of l.framework) l.fn.self
