use Rattle.std.proofs.Common.{◌∷◌, [], ◌&&◌, ◌==◌, true, false, refl, sym, ap, ◌∙◌}
use Rattle.cluster_model.specs.Sides.{is_named}
use Rattle.offer_tables.proofs.Only.{at_test, nowhere_at, untouched}
use Rattle.offer_tables.proofs.Ridding.{left, named_implies, named_is}
use Rattle.offer_tables.proofs.book.OfferBook.withdraw_one_at.Goals as goal

pub returns-then-is_at : goal.returns-then-is_at
returns-then-is_at c =
    let e = c.in-Some.located.now in
    let f = c.args.framework in
    c.drop_offer.ensures
    ∙ at_test (λ x. x.id) (λ a. a.offers) (λ os a. record a { offers = os }) (λ a. refl) (is_named f (c.args.id ∷ [])) c.args.id (named_implies f c.args.id) e.item e.place c.args.place c.args.self.now c.in-Some.ensures.1 true
    (sym c.if-is_at.true ∙ c.is_at.ensures ∙ ap (λ v. e.place == c.args.place && v) (sym (named_is f c.args.id e.item c.in-Some.ensures.0)))

pub returns-else-is_at : goal.returns-else-is_at
returns-else-is_at c =
    let e = c.in-Some.located.now in
    let f = c.args.framework in
    at_test (λ x. x.id) (λ a. a.offers) (λ os a. record a { offers = os }) (λ a. refl) (is_named f (c.args.id ∷ [])) c.args.id (named_implies f c.args.id) e.item e.place c.args.place c.args.self.now c.in-Some.ensures.1 false
    (sym c.if-is_at.false ∙ c.is_at.ensures ∙ ap (λ v. e.place == c.args.place && v) (sym (named_is f c.args.id e.item c.in-Some.ensures.0)))

pub returns-in_default : goal.returns-in_default
returns-in_default c =
    let f = c.args.framework in
    sym (nowhere_at (λ x. x.id) (λ a. a.offers) (λ os a. record a { offers = os }) (λ a. refl) (left f (c.args.id ∷ [])) c.args.id
    (untouched (λ x. x.id) (is_named f (c.args.id ∷ [])) c.args.id (named_implies f c.args.id)) c.args.place c.args.self.now c.in_default.ensures)
