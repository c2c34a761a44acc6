use Rattle.std.proofs.Common.{◌≡◌, map, take}
use Rattle.std.specs.List.{AllByRecursion}
use Rattle.serde_json.specs.View.{view}
use Rattle.event_json.specs.Bounds.{IsOffer}
use Rattle.event_json.specs.Offers.{offer_data}
use Rattle.event_json.proofs.offer.offers_value.Given as goal

abbrev pub invariant-loop-offer : goal.invariant-loop-offer
invariant-loop-offer l = record {
  values : map view l.values.items ≡ map offer_data (take l.offer-index l.offers);
  bounds : AllByRecursion IsOffer (take l.offer-index l.offers);
}
