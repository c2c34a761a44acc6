use Rattle.std.proofs.Common.{sym, subst}
use Rattle.offer_book.specs.Names.{IsIndex}
use Rattle.offer_book.specs.Changes.{ended}
use Rattle.offer_book.proofs.Changing.{ended_job}
use Rattle.offer_book.proofs.Indexing.{index_map}
use Rattle.offer_book.proofs.booked.BookedTasks.end.Goals as goal

pub invariant_of-self : goal.invariant_of-self
invariant_of-self c =
    subst (IsIndex c.self.inside.names) (sym c.end.ensures) (index_map c.self.inside.names c.self.inside.tasks (ended c.args.key) (ended_job c.args.key) c.self.invariant)
