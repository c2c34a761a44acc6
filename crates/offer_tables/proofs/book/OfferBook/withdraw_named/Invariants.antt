use Rattle.std.proofs.Common.{◌≡◌, drop, map}
use Rattle.offer_tables.specs.Accounts.{without_named}
use Rattle.offer_tables.proofs.book.OfferBook.withdraw_named.Given as goal

-- what the ids that are left withdraw of what is left now
abbrev pub invariant-loop-id : goal.invariant-loop-id
invariant-loop-id l = map (without_named l.framework (drop l.id-index l.ids)) l.self ≡ map (without_named l.framework l.ids) l.fn.self
