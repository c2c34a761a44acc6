-- The shares of a round pick as the model does.
use Rattle.std.specs.Prelude.{◌≡◌, ℕ, true, List, option_map}
use Rattle.quantity.specs.declared.rows.Row.{Row}
use Rattle.std.specs.List.{AllByRecursion}
use Rattle.quantity.specs.Rows.{AreRows}
use Rattle.names_core.specs.Weights.{RoleWeight}
use Rattle.cluster_model.specs.Events.{MadeOffer}
use Rattle.cluster_model.specs.Masters.{Master}
use Rattle.cluster_model.specs.Rounds.{clients_of, pick, totals_of}
use Rattle.drf_pick.specs.Shares.{Tally}
use Rattle.drf_pick.specs.Allocations.{AddUp, all_rows}
use Rattle.master_state.specs.Frameworks.{are_ordered}
use Rattle.master_rounds.specs.Allocations.{ShowRound, allocations_with}
use Rattle.master_rounds.specs.Picks.{picked}
use Rattle.master_rounds.specs.Served.{GoesTo}

-- what holds of a master where its shares can be summed
pub record CanBeSummed (m : Master) (made : List MadeOffer) : Type 0 where
  pub ordered : are_ordered m.registers.frameworks ≡ true
  pub rows : AllByRecursion (λ s. AreRows s.total) m.sides
  pub held : AddUp (all_rows (allocations_with m.sides made))

-- the framework that stands least by the shares of a round is the one that the model picks
abbrev pub PicksAlike : Type 0
PicksAlike =
    (weights : List RoleWeight) (m : Master) (made : List MadeOffer) (t : Tally)
    (agent : List ℕ) (free : List Row) → CanBeSummed m made
    → ShowRound weights m.sides m.registers.frameworks made t
    → picked m.registers.now agent free t m.registers.frameworks
    ≡ option_map (λ c. c.framework.id)
    (pick weights m.registers.now (totals_of m) (clients_of m) made agent free)

-- where shares of a round show what is allocated, what is free on an agent goes by the amounts in
-- the master's books to the framework that the model picks
abbrev pub GoesToPicked : Type 0
GoesToPicked =
    (weights : List RoleWeight) (m : Master) (made : List MadeOffer) (t : Tally)
    (agent : List ℕ) (free : List Row) → CanBeSummed m made
    → ShowRound weights m.sides m.registers.frameworks made t
    → GoesTo weights m made agent free
    (option_map (λ c. c.framework.id)
    (pick weights m.registers.now (totals_of m) (clients_of m) made agent free))
