-- Offers that are sent to their frameworks.
use Rattle.std.specs.Prelude.{◌≡◌, ◌⊎◌, List, [], ◌∷◌, Some}
use Rattle.names_core.specs.Ids.{Numbered}
use Rattle.cluster_model.specs.Events.{MadeOffer, Event, Offers, StreamEvent, offer_of}
use Rattle.cluster_model.specs.Masters.{Framework}

abbrev pub IsAmong : {A : Type 0} → A → List A → Type 0
IsAmong x [] = ⊥
IsAmong x (y ∷ ys) = (y ≡ x) ⊎ IsAmong x ys

abbrev pub HasOffer : MadeOffer → Event → Type 0
HasOffer g (Offers offers) = IsAmong (offer_of g) offers
HasOffer g event = ⊥

-- an OFFERS event on this stream has the offer
abbrev pub IsOfferedOn : Numbered → MadeOffer → List StreamEvent → Type 0
IsOfferedOn stream g [] = ⊥
IsOfferedOn stream g (t ∷ ts) = ((t.stream ≡ stream) × HasOffer g t.event) ⊎ IsOfferedOn stream g ts

-- a framework of this id is subscribed on this stream
abbrev pub IsSubscribed : List Framework → Numbered → Numbered → Type 0
IsSubscribed fs framework stream =
    (f : Framework) × IsAmong f fs × (f.id ≡ framework) × (f.stream ≡ Some stream)

-- an offer's framework is subscribed, and an OFFERS event on its stream has the offer
abbrev pub IsSentOffer : List Framework → List StreamEvent → MadeOffer → Type 0
IsSentOffer fs events g =
    (stream : Numbered) × IsSubscribed fs g.offer.framework stream × IsOfferedOn stream g events
