-- The list of offers of a round (DRF paper, section 4; Mesos paper, section 3.1).
use Rattle.std.specs.Prelude.{◌≡◌, ◌⊎◌, ◌++◌, true, false, List, [], ◌∷◌, Some, None, nat_lt}
use Rattle.names_core.specs.Ids.{Numbered}
use Rattle.names_core.specs.Weights.{RoleWeight}
use Rattle.cluster_model.specs.Ids.{following, is_empty, last_number}
use Rattle.cluster_model.specs.Sides.{Side}
use Rattle.cluster_model.specs.Events.{MadeOffer}
use Rattle.cluster_model.specs.Masters.{Master}
use Rattle.cluster_model.specs.Rounds.{free}
use Rattle.master_rounds.specs.Served.{GoesTo}

-- an agent's whole free part
abbrev pub offer_at : Side → Numbered → Numbered → MadeOffer
offer_at s id framework =
    record {
      agent = s.name;
      offer = record { id = id; framework = framework; resources = free s };
    }

-- an agent gets no offer: it has no open session, nothing of it is free, no numbers are left, or to
-- no framework may it be offered
abbrev pub IsPassedOver : List RoleWeight → Master → List MadeOffer → Numbered → Side → Type 0
IsPassedOver ws m made next s =
    (s.is_open ≡ false)
    ⊎ ((is_empty (free s) ≡ true)
    ⊎ ((nat_lt last_number next.n ≡ true) ⊎ GoesTo ws m made s.name (free s) None))

-- an agent's free part is offered to a framework
pub record IsOffered (ws : List RoleWeight) (m : Master) (made : List MadeOffer) (next : Numbered)
    (s : Side) (framework : Numbered) : Type 0 where
  pub is_open : s.is_open ≡ true
  pub some : is_empty (free s) ≡ false
  pub left : nat_lt last_number next.n ≡ false
  pub goes : GoesTo ws m made s.name (free s) (Some framework)

-- the offers of a round from some agents, with those made before and the next id: for each agent,
-- in order, its whole free part to the framework that it goes to, which counts at the next agents
abbrev pub AreOffersOf : List RoleWeight → Master → List MadeOffer → Numbered → List Side
    → List MadeOffer → Type 0
AreOffersOf ws m made next [] offers = offers ≡ []
AreOffersOf ws m made next (s ∷ ss) offers =
    (IsPassedOver ws m made next s × AreOffersOf ws m made next ss offers)
    ⊎ ((framework : Numbered) × (rest : List MadeOffer)
    × IsOffered ws m made next s framework
    × (offers ≡ offer_at s next framework ∷ rest)
    × AreOffersOf ws m (made ++ offer_at s next framework ∷ []) (following next) ss rest)

-- the offers of a round of a master
abbrev pub AreOfRound : List RoleWeight → Master → List MadeOffer → Type 0
AreOfRound ws m offers = AreOffersOf ws m [] m.run.next_offer m.sides offers
