use Rattle.std.proofs.Common.{◌≡◌, ◌≤◌, length}
use Rattle.cluster_model.specs.Masters.{is_of}
use Rattle.offer_book.specs.Lists.{at_place}
use Rattle.offer_tables.specs.Found.{offers_on}
use Rattle.offer_tables.proofs.Only.{kept_from}
use Rattle.offer_tables.proofs.book.OfferBook.withdraw_of_at.Given as goal

abbrev pub invariant-loop-index : goal.invariant-loop-index
invariant-loop-index l = record {
  within : l.index ≤ length (offers_on l.place l.fn.self);
  left : l.self ≡ at_place l.place (λ a. record a { offers = kept_from (λ o. o.id) (is_of l.framework) l.index a.offers }) l.fn.self;
}

abbrev pub decreases-loop-index : goal.decreases-loop-index
decreases-loop-index l = l.index
