use Rattle.std.proofs.Common.{◌≡◌, ◌++◌, Ok}
use Rattle.offer_tables.specs.Books.{reopened_on}
use Rattle.offer_tables.proofs.book.OfferBook.reopen.Given as goal

abbrev pub invariant-loop-task : goal.invariant-loop-task
invariant-loop-task l = record {
  opened : reopened_on l.name l.yielded l.fn.total l.fn.self ≡ Ok l.self;
  all : l.yielded ++ l.task-iterator.rest.items ≡ l.fn.tasks;
}
