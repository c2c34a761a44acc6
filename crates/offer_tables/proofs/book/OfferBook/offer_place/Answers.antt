use Rattle.std.proofs.Common.{◌≡◌, zero, true, Option, None, Some, MatchOption, option_copied, sym, subst, ◌∙◌}
use Rattle.names_core.specs.Ids.{same}
use Rattle.messages.specs.declared.task.Offer.{Offer}
use Rattle.offer_book.specs.declared.located.Located.{Located}
use Rattle.offer_book.specs.Lists.{find_from}
use Rattle.offer_book.proofs.Changing.{same_turned}
use Rattle.offer_book.proofs.Standing.{find_has}
use Rattle.offer_tables.specs.Places.{IsNowhere, IsOnlyFrom}
use Rattle.offer_tables.proofs.Whereabouts.{no_offer, only_offer}
use Rattle.offer_tables.proofs.book.OfferBook.offer_place.Goals as goal

pub returns : goal.returns
returns c = by (option_copied c.find.result) c.find.ensures.found
  where
    by : (w : Option (Located Offer)) → w ≡ find_from (λ x. x.id) zero c.args.id c.self.inside.offers
        → MatchOption w (IsNowhere (λ x. x.id) (λ a. a.offers) c.args.id c.args.self.now)
        (λ e. (same e.item.id c.args.id ≡ true) × IsOnlyFrom (λ x. x.id) (λ a. a.offers) zero c.args.id e.place e.item c.args.self.now)
    by None is = subst (IsNowhere (λ x. x.id) (λ a. a.offers) c.args.id) c.self.view_is (no_offer c.args.id c.self.inside.agents.items c.self.inside.offers c.self.inside.tasks zero c.self.invariant.each (sym is))
    by (Some e) is = (
      same_turned c.args.id e.item.id ∙ find_has (λ x. x.id) c.self.inside.offers zero c.args.id e (sym is),
      subst (IsOnlyFrom (λ x. x.id) (λ a. a.offers) zero c.args.id e.place e.item) c.self.view_is
          (only_offer c.args.id c.self.inside.agents.items c.self.inside.offers c.self.inside.tasks zero e c.self.invariant.each c.find.ensures.once (sym is)),
    )
