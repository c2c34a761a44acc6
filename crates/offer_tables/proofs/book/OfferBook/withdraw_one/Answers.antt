use Rattle.std.proofs.Common.{◌∷◌, [], zero, refl, sym, ◌∙◌}
use Rattle.cluster_model.specs.Sides.{is_named}
use Rattle.offer_tables.proofs.Only.{fails_map, nowhere_map, passes_map, untouched}
use Rattle.offer_tables.proofs.Ridding.{left, named_implies, named_is}
use Rattle.offer_tables.proofs.book.OfferBook.withdraw_one.Goals as goal

pub returns-then-is_to : goal.returns-then-is_to
returns-then-is_to c =
    let e = c.in-Some.located.now in
    let f = c.args.framework in
    c.drop_offer.ensures
    ∙ passes_map (λ x. x.id) (λ a. a.offers) (λ os a. record a { offers = os }) (λ a. refl) (is_named f (c.args.id ∷ [])) c.args.id (named_implies f c.args.id) e.item
    (named_is f c.args.id e.item c.in-Some.ensures.0 ∙ sym c.is_to.ensures ∙ c.if-is_to.true) zero e.place c.args.self.now c.in-Some.ensures.1

pub returns-else-is_to : goal.returns-else-is_to
returns-else-is_to c =
    let e = c.in-Some.located.now in
    let f = c.args.framework in
    sym (fails_map (λ x. x.id) (λ a. a.offers) (λ os a. record a { offers = os }) (λ a. refl) (is_named f (c.args.id ∷ [])) c.args.id (named_implies f c.args.id) e.item
    (named_is f c.args.id e.item c.in-Some.ensures.0 ∙ sym c.is_to.ensures ∙ c.if-is_to.false) zero e.place c.args.self.now c.in-Some.ensures.1)

pub returns-in_default : goal.returns-in_default
returns-in_default c =
    let f = c.args.framework in
    sym (nowhere_map (λ x. x.id) (λ a. a.offers) (λ os a. record a { offers = os }) (λ a. refl) (left f (c.args.id ∷ [])) c.args.id
    (untouched (λ x. x.id) (is_named f (c.args.id ∷ [])) c.args.id (named_implies f c.args.id)) c.args.self.now c.in_default.ensures)
