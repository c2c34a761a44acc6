use Rattle.std.proofs.Common.{ap, ◌∙◌}
use Rattle.offer_tables.specs.Found.{tasks_on}
use Rattle.offer_tables.proofs.Booking.{tasks_there}
use Rattle.offer_tables.proofs.book.OfferBook.tasks_at.Goals as goal

pub returns : goal.returns
returns c = c.at.ensures ∙ tasks_there c.args.place c.self.inside.agents.items c.self.inside.offers c.self.inside.tasks c.self.invariant.each ∙ ap (tasks_on c.args.place) c.self.view_is
