use Rattle.std.proofs.Common.{get_or, refl, sym, ap, subst, ◌∙◌}
use Rattle.std.specs.List.{IsDistinct}
use Rattle.offer_book.specs.Lists.{same_id}
use Rattle.cluster_model.specs.Masters.{is_of}
use Rattle.offer_tables.proofs.Only.{index_fails_at, index_nowhere, index_passes_at}
use Rattle.offer_tables.proofs.book.OfferBook.withdraw_at.Goals as goal

pub returns-then-is_to : goal.returns-then-is_to
returns-then-is_to c =
    let e = c.in-Some.located.now in
    let k = c.index-offers_on-index.result in
    c.drop_offer.ensures
    ∙ index_passes_at (λ x. x.id) (λ a. a.offers) (λ l a. record a { offers = l }) (λ a. refl) (is_of c.args.framework) k c.args.place c.args.index c.args.self.now c.requires
    (c.index-offers_on-index.is ∙ ap (λ ks. get_or ks c.args.index k) c.offers_on.ensures.ids) e.item e.place (sym c.is_to.ensures ∙ c.if-is_to.true) (subst (IsDistinct same_id) c.offers_on.ensures.ids c.offers_on.ensures.apart) c.in-Some.ensures.1

pub returns-else-is_to : goal.returns-else-is_to
returns-else-is_to c =
    let e = c.in-Some.located.now in
    let k = c.index-offers_on-index.result in
    sym (index_fails_at (λ x. x.id) (λ a. a.offers) (λ l a. record a { offers = l }) (λ a. refl) (is_of c.args.framework) k c.args.place c.args.index c.args.self.now c.requires
    (c.index-offers_on-index.is ∙ ap (λ ks. get_or ks c.args.index k) c.offers_on.ensures.ids) e.item e.place (sym c.is_to.ensures ∙ c.if-is_to.false) c.in-Some.ensures.1)

pub returns-in_default : goal.returns-in_default
returns-in_default c =
    let k = c.index-offers_on-index.result in
    absurd (index_nowhere (λ x. x.id) (λ a. a.offers) (λ l a. record a { offers = l }) (λ a. refl) (is_of c.args.framework) k c.args.place c.args.index c.args.self.now c.requires
    (c.index-offers_on-index.is ∙ ap (λ ks. get_or ks c.args.index k) c.offers_on.ensures.ids) c.in_default.ensures)
