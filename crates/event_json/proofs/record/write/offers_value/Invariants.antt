use Rattle.std.proofs.Common.{◌≡◌, map, take}
use Rattle.std.specs.List.{AllByRecursion}
use Rattle.serde_json.specs.Data.{string}
use Rattle.serde_json.specs.View.{view}
use Rattle.names_core.specs.Ids.{InRange, id_text}
use Rattle.event_json.proofs.record.write.offers_value.Given as goal

abbrev pub invariant-loop-offer : goal.invariant-loop-offer
invariant-loop-offer l =
    record {
      written : map view l.values.items ≡ map (λ offer. string (id_text 79 offer)) (take l.offer-index l.offers);
      in_range : AllByRecursion InRange (take l.offer-index l.offers);
    }
