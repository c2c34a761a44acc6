use Rattle.std.proofs.Common.{map, sym, ap, subst, ◌∙◌}
use Rattle.std.specs.List.{IsDistinct}
use Rattle.offer_book.specs.Lists.{same_id}
use Rattle.offer_tables.specs.Found.{tasks_on}
use Rattle.offer_tables.proofs.Booking.{tasks_there}
use Rattle.offer_tables.proofs.Whereabouts.{distinct_there}
use Rattle.offer_tables.proofs.book.OfferBook.tasks_on.Goals as goal

pub returns-clause-keys : goal.returns-clause-keys
returns-clause-keys c =
    c.keys_at.ensures.keys ∙ ap (map (λ x. x.job.key)) (tasks_there c.args.place c.self.inside.agents.items c.self.inside.offers c.self.inside.tasks c.self.invariant.each ∙ ap (tasks_on c.args.place) c.self.view_is)

pub returns-clause-apart : goal.returns-clause-apart
returns-clause-apart c = subst (IsDistinct same_id) (sym c.keys_at.ensures.keys) (distinct_there (λ x. x.job.key) c.self.inside.tasks 0 c.args.place c.keys_at.ensures.once)
