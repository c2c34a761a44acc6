use Rattle.std.proofs.Common.{sym, subst}
use Rattle.offer_book.specs.Names.{IsIndex}
use Rattle.offer_book.proofs.Indexing.{index_without}
use Rattle.offer_book.proofs.booked.BookedTasks.remove.Goals as goal

pub invariant_of-self : goal.invariant_of-self
invariant_of-self c =
    subst (IsIndex c.forget_name.new.names) (sym c.remove.ensures.others)
    (index_without c.self.inside.names c.forget_name.new.names c.self.inside.tasks c.args.key c.self.invariant c.forget_name.ensures)
