-- What frameworks are allocated: by current offers, and by booked tasks that haven't ended.
use Rattle.std.specs.Prelude.{◌≡◌, ⊤, ℕ, List, [], ◌∷◌, ◌++◌, map, flat_map, set}
use Rattle.quantity.specs.Laws.{SameAmounts}
use Rattle.messages.specs.declared.framework.Framework.{Framework}
use Rattle.messages.specs.declared.task.Job.{Job}
use Rattle.messages.specs.declared.task.Offer.{Offer}
use Rattle.messages.specs.declared.task.Booked.{Booked}
use Rattle.names_core.specs.Weights.{RoleWeight}
use Rattle.cluster_model.specs.Sides.{Side, unended}
use Rattle.cluster_model.specs.Events.{MadeOffer}
use Rattle.drf_pick.specs.Laws.{ArePositive}
use Rattle.drf_pick.specs.Shares.{AreWeighed, Tally}
use Rattle.drf_pick.specs.declared.counted.Allocation.{Allocation}
use Rattle.drf_pick.specs.declared.counted.CountedShares.{CountedShares}
use Rattle.drf_pick.specs.declared.counted.Found.{Found}
use Rattle.drf_pick.specs.Shown.{AllCounted, AreCounted, SameAllocations, TallyShows, WeightsShow, all_found}
use Rattle.master_state.specs.LastRound.{clients_of}
use Rattle.master_rounds.specs.Owned.{totals_in}

abbrev pub offer_allocation : Offer → Allocation
offer_allocation o = record { framework = o.framework; resources = o.resources }

abbrev pub job_allocation : Job → Allocation
job_allocation j = record { framework = j.framework; resources = j.resources }

-- that of a booked task; none once it has ended
abbrev pub task_allocations : Booked → List Allocation
task_allocations b = map job_allocation (unended (b ∷ []))

abbrev pub allocations_on : List Offer → List Booked → List Allocation
allocations_on os bs = map offer_allocation os ++ map job_allocation (unended bs)

abbrev pub side_allocations : Side → List Allocation
side_allocations s = allocations_on s.offers s.booked

abbrev pub made_allocation : MadeOffer → Allocation
made_allocation g = offer_allocation g.offer

-- all that is allocated on some sides
abbrev pub allocations_of : List Side → List Allocation
allocations_of ss = flat_map side_allocations ss

-- with the offers of a round
abbrev pub allocations_with : List Side → List MadeOffer → List Allocation
allocations_with ss made = allocations_of ss ++ map made_allocation made

-- what was found on each agent is what it has
abbrev pub AreFoundOn : List Found → List Side → Type 0
AreFoundOn [] [] = ⊤
AreFoundOn [] (s ∷ ss) = ⊥
AreFoundOn (f ∷ fs) [] = ⊥
AreFoundOn (f ∷ fs) (s ∷ ss) = (f.allocations.items ≡ side_allocations s) × AreFoundOn fs ss

-- the agent at a place was looked at
abbrev pub IsFoundAt : ℕ → Side → List Found → List Found → Type 0
IsFoundAt place s fs gs =
    (g : Found) × (gs ≡ set fs place g) × (g.allocations.items ≡ side_allocations s)

-- the shares of a round: what the agents with an open session own, the frameworks with their roles,
-- these with their weights, and what frameworks are allocated on the agents and by offers of the
-- round; amounts of names are what counts, in whichever rows
pub record ShowRound (ws : List RoleWeight) (ss : List Side) (fs : List Framework)
    (made : List MadeOffer) (t : Tally) : Type 0 where
  pub totals : SameAmounts t.totals (totals_in ss)
  pub positive : ArePositive t.totals
  pub shown : TallyShows (allocations_with ss made) (clients_of fs) t
  pub weights : WeightsShow ws t.roles
  pub weighed : AreWeighed t.roles

-- shares with which a round begins, in which all that is allocated on the agents is counted
pub record BeginRound (ws : List RoleWeight) (ss : List Side) (fs : List Framework)
    (k : CountedShares) : Type 0 where
  pub counted : AreCounted (clients_of fs) k
  pub all : AllCounted k.found.items
  pub found : SameAllocations (all_found k.found.items) (allocations_of ss)
  pub totals : SameAmounts k.shares.totals (totals_in ss)
  pub positive : ArePositive k.shares.totals
  pub weights : WeightsShow ws k.shares.roles
  pub weighed : AreWeighed k.shares.roles
