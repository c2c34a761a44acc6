use Rattle.std.proofs.Common.{◌≡◌, ◌≤◌, length, take, filter}
use Rattle.names_core.specs.Ids.{same}
use Rattle.master_rounds.proofs.news.offers_for.Given as goal

abbrev pub invariant-loop-offer : goal.invariant-loop-offer
invariant-loop-offer l = record {
  copies : l.copies.items ≡ filter (λ o. same o.framework l.framework) (take l.offer-index l.offers);
  few : length l.copies.items ≤ l.offer-index;
}
