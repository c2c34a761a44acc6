use Rattle.std.proofs.Common.{ap, ◌∙◌}
use Rattle.offer_tables.specs.Found.{offers_on}
use Rattle.offer_tables.proofs.Booking.{offers_there}
use Rattle.offer_tables.proofs.book.OfferBook.offers_at.Goals as goal

pub returns : goal.returns
returns c = c.at.ensures ∙ offers_there c.args.place c.self.inside.agents.items c.self.inside.offers c.self.inside.tasks c.self.invariant.each ∙ ap (offers_on c.args.place) c.self.view_is
