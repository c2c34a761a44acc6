-- What a framework has on all agents: its offers, and its booked tasks.
use Rattle.std.specs.Prelude.{ℕ, if◌then◌else◌, List, [], filter, Option, Some, None, option_map}
use Rattle.std.specs.List.{find}
use Rattle.names_core.specs.Ids.{Numbered}
use Rattle.quantity.specs.declared.rows.Row.{Row}
use Rattle.quantity.specs.Rows.{plus_rows}
use Rattle.messages.specs.declared.task.Offer.{Offer}
use Rattle.messages.specs.declared.task.Booked.{Booked}
use Rattle.cluster_model.specs.Sides.{Side, is_good, is_named, offer_rows, used_offers}
use Rattle.cluster_model.specs.Calls.{has_tasks_of}
pub use Rattle.master_agents.specs.declared.own.GoodOffers.{GoodOffers}

-- an agent with its offers and booked tasks
pub record Holding : Type 0 where
  pub agent : List ℕ
  pub offers : List Offer
  pub booked : List Booked

abbrev pub holding : Side → Holding
holding s = record { agent = s.name; offers = s.offers; booked = s.booked }

-- the agent of good offers, and their sum
abbrev pub sum_on : Numbered → List Numbered → Side → GoodOffers
sum_on framework ids s =
    record { agent = s.name; sum = plus_rows [] (offer_rows (used_offers s framework ids)) }

-- the agent and the sum of good offers, where they are good on an agent
abbrev pub good_offers : Numbered → List Numbered → List Side → Option GoodOffers
good_offers framework ids ss =
    option_map (sum_on framework ids) (find (λ s. is_good s framework ids) ss)

-- the agents with booked tasks of a framework
abbrev pub sides_with_tasks : Numbered → List Side → List Side
sides_with_tasks framework ss = filter (has_tasks_of framework) ss

-- what an offer has, if it is one of the framework's of these ids
abbrev pub named_rows : Numbered → List Numbered → Offer → List Row
named_rows framework ids o = if is_named framework ids o then o.resources else []

-- the agent, if offers are good on it
abbrev pub if_good : Numbered → List Numbered → Option Side → Option Side
if_good framework ids None = None
if_good framework ids (Some s) = if is_good s framework ids then Some s else None
