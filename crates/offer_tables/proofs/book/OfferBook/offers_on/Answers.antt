use Rattle.std.proofs.Common.{map, sym, ap, subst, ◌∙◌}
use Rattle.std.specs.List.{IsDistinct}
use Rattle.offer_book.specs.Lists.{same_id}
use Rattle.offer_tables.specs.Found.{offers_on}
use Rattle.offer_tables.proofs.Booking.{offers_there}
use Rattle.offer_tables.proofs.Whereabouts.{distinct_there}
use Rattle.offer_tables.proofs.book.OfferBook.offers_on.Goals as goal

pub returns-clause-ids : goal.returns-clause-ids
returns-clause-ids c =
    c.ids_at.ensures.ids ∙ ap (map (λ x. x.id)) (offers_there c.args.place c.self.inside.agents.items c.self.inside.offers c.self.inside.tasks c.self.invariant.each ∙ ap (offers_on c.args.place) c.self.view_is)

pub returns-clause-apart : goal.returns-clause-apart
returns-clause-apart c = subst (IsDistinct same_id) (sym c.ids_at.ensures.ids) (distinct_there (λ x. x.id) c.self.inside.offers 0 c.args.place c.ids_at.ensures.once)
