use Rattle.std.proofs.Common.{◌≡◌, ◌≤◌, length}
use Rattle.offer_book.specs.Lists.{at_place}
use Rattle.offer_tables.specs.Accounts.{is_of_framework}
use Rattle.offer_tables.specs.Found.{tasks_on}
use Rattle.offer_tables.proofs.Only.{kept_from}
use Rattle.offer_tables.proofs.book.OfferBook.forget_of_at.Given as goal

abbrev pub invariant-loop-index : goal.invariant-loop-index
invariant-loop-index l = record {
  within : l.index ≤ length (tasks_on l.place l.fn.self);
  left : l.self ≡ at_place l.place (λ a. record a { booked = kept_from (λ b. b.job.key) (is_of_framework l.framework) l.index a.booked }) l.fn.self;
}

abbrev pub decreases-loop-index : goal.decreases-loop-index
decreases-loop-index l = l.index
