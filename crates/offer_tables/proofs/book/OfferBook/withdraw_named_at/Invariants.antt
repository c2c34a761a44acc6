use Rattle.std.proofs.Common.{◌≡◌, drop}
use Rattle.offer_book.specs.Lists.{at_place}
use Rattle.offer_tables.specs.Accounts.{without_named}
use Rattle.offer_tables.proofs.book.OfferBook.withdraw_named_at.Given as goal

abbrev pub invariant-loop-id : goal.invariant-loop-id
invariant-loop-id l = at_place l.place (without_named l.framework (drop l.id-index l.ids)) l.self ≡ at_place l.place (without_named l.framework l.ids) l.fn.self
