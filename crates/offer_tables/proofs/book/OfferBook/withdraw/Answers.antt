use Rattle.std.proofs.Common.{◌≡◌, true, false, zero, is_some, None, Some, Ok, map, refl, sym, ap, ◌∙◌}
use Rattle.offer_book.specs.Lists.{find_from, without}
use Rattle.offer_book.proofs.Taking.{here_is}
use Rattle.offer_tables.specs.Accounts.{without_offer}
use Rattle.offer_tables.specs.Books.{is_offered}
use Rattle.offer_tables.specs.Rows.{account, accounts}
use Rattle.offer_tables.proofs.Booking.{offered_is}
use Rattle.offer_tables.proofs.Books.{book_without_offer, map-same, offer_within, view_mapped, without_offer_is}
use Rattle.offer_tables.proofs.book.OfferBook.withdraw.Goals as goal

pub returns-in_default-clause-refused : goal.returns-in_default-clause-refused
returns-in_default-clause-refused c =
    let none : find_from (λ x. x.id) zero c.args.id c.self.inside.offers ≡ None = sym c.remove.ensures.removed ∙ c.in_default.is in
    let no : is_offered c.args.id c.args.self.now ≡ false =
    ap (is_offered c.args.id) (sym c.self.view_is) ∙ offered_is c.args.id c.self.inside.agents.items c.self.inside.offers c.self.inside.tasks zero c.self.invariant.each ∙ ap is_some none in
    rw no refl

pub give_back-requires : goal.give_back-requires
give_back-requires c =
    let e = c.in-Some.located in
    let at : find_from (λ x. x.id) zero c.args.id c.self.inside.offers ≡ Some e = sym c.remove.ensures.removed ∙ c.in-Some.is in
    offer_within c.self.inside.agents.items c.self.inside.offers c.self.inside.tasks e.place c.args.id e.item c.self.invariant.each
    (here_is (λ x. x.id) c.self.inside.offers c.args.id e c.remove.ensures.once at).first_there

pub invariant_of-self-2 : goal.invariant_of-self-2
invariant_of-self-2 c =
    let e = c.in-Some.located in
    book_without_offer c.self.inside.names.keys c.self.inside.agents.items c.give_back.new.agents.items c.self.inside.offers c.remove.new.self c.self.inside.tasks c.args.id e
    c.self.invariant c.remove.ensures.once (sym c.remove.ensures.removed ∙ c.in-Some.is) c.remove.ensures.others c.give_back.ensures

pub returns-clause-ok : goal.returns-clause-ok
returns-clause-ok c =
    let e = c.in-Some.located in
    let rs = c.self.inside.agents.items in
    let os = c.self.inside.offers in
    let bs = c.self.inside.tasks in
    let at : find_from (λ x. x.id) zero c.args.id os ≡ Some e = sym c.remove.ensures.removed ∙ c.in-Some.is in
    let yes : is_offered c.args.id c.args.self.now ≡ true =
    ap (is_offered c.args.id) (sym c.self.view_is) ∙ offered_is c.args.id rs os bs zero c.self.invariant.each ∙ ap is_some at in
    rw yes (ap (λ x. Ok x) (ap (map (without_offer c.args.id)) (sym c.self.view_is)
    ∙ sym (view_mapped e.item.resources (without (λ x. x.id) c.args.id) (λ l. l) (without_offer c.args.id) rs c.give_back.new.agents.items os bs e.place c.give_back.ensures c.self.invariant.each
    (λ r ps cs. ap (λ l. account r l cs) (without_offer_is c.args.id ps)))
    ∙ (λ i. accounts c.give_back.new.agents.items (sym c.remove.ensures.others i) (map-same bs i))))
