use Rattle.std.proofs.Common.{sym, subst}
use Rattle.offer_book.specs.Names.{IsIndex}
use Rattle.offer_book.proofs.Indexing.{index_more}
use Rattle.offer_book.proofs.booked.BookedTasks.add_place.Goals as goal

pub invariant_of-self-2 : goal.invariant_of-self-2
invariant_of-self-2 c = subst (IsIndex c.self.inside.names) (sym c.in_ok-add_place.ensures.ok) (index_more c.self.inside.names c.self.inside.tasks c.self.invariant)
