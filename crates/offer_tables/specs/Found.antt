-- Looking for offers and tasks by their ids.
use Rattle.std.specs.Prelude.{ℕ, zero, suc, List, [], ◌∷◌, Option, Some, None}
use Rattle.std.specs.List.{find}
use Rattle.names_core.specs.Ids.{Numbered}
use Rattle.messages.specs.declared.task.Offer.{Offer}
use Rattle.messages.specs.declared.task.Booked.{Booked}
use Rattle.cluster_model.specs.Masters.{Placed}
use Rattle.cluster_model.specs.Events.{MadeOffer}
use Rattle.offer_tables.specs.Accounts.{Account, is_offered_as, has_key}

abbrev pub place : List ℕ → Booked → Placed
place agent b = record { agent = agent; booked = b }

abbrev pub made : List ℕ → Offer → MadeOffer
made agent o = record { agent = agent; offer = o }

abbrev pub made_or : List ℕ → Option Offer → Option MadeOffer → Option MadeOffer
made_or agent None others = others
made_or agent (Some o) others = Some (made agent o)

-- the offer of this id, with its agent
abbrev pub offer_of : Numbered → List Account → Option MadeOffer
offer_of id [] = None
offer_of id (a ∷ as_) = made_or a.name (find (is_offered_as id) a.offers) (offer_of id as_)

abbrev pub placed_or : List ℕ → Option Booked → Option Placed → Option Placed
placed_or agent None others = others
placed_or agent (Some b) others = Some (place agent b)

-- the booked task of this key, with its agent
abbrev pub task_of : Numbered → List Account → Option Placed
task_of key [] = None
task_of key (a ∷ as_) = placed_or a.name (find (has_key key) a.booked) (task_of key as_)

-- what is on the agent at a place; nothing past the end
abbrev pub there : {T : Type 0} → (Account → List T) → ℕ → List Account → List T
there items p [] = []
there items zero (a ∷ as_) = items a
there items (suc p) (a ∷ as_) = there items p as_

abbrev pub offers_on : ℕ → List Account → List Offer
offers_on p as_ = there (λ a. a.offers) p as_

abbrev pub tasks_on : ℕ → List Account → List Booked
tasks_on p as_ = there (λ a. a.booked) p as_
