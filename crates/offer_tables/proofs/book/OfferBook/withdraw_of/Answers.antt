use Rattle.std.proofs.Common.{◌≡◌, ◌+◌, suc, sym, ap, subst, ◌∙◌, arith}
use Rattle.offer_book.specs.Lists.{at_place}
use Rattle.offer_tables.specs.Accounts.{without_offers_of}
use Rattle.offer_tables.proofs.Ridding.{mapped_all, mapped_more, mapped_none, mapped_to}
use Rattle.offer_tables.proofs.book.OfferBook.withdraw_of.Goals as goal

pub loop-place-init : goal.loop-place-init
loop-place-init c = sym (mapped_none (without_offers_of c.args.framework) c.args.self.now)

pub loop-place-preserved : goal.loop-place-preserved
loop-place-preserved c =
    let next : suc c.loop-place.place ≡ c.loop-place.place + 1 = omega arith in
    subst (λ n. c.withdraw_of_at.new.self ≡ mapped_to n (without_offers_of c.args.framework) c.args.self.now) next
    (c.withdraw_of_at.ensures ∙ ap (at_place c.loop-place.place (without_offers_of c.args.framework)) c.loop-place.invariant ∙ mapped_more c.loop-place.place (without_offers_of c.args.framework) c.args.self.now)

pub returns : goal.returns
returns c =
    c.loop-place.invariant ∙ mapped_all c.loop-place.place (without_offers_of c.args.framework) c.args.self.now (omega (arith, c.len-place-end.ensures, c.loop-place-test.false, c.loop-place.auto.place-end))
