-- To which framework what is free on an agent goes in a round
-- (DRF paper, section 4; Mesos paper, section 3.1).
use Rattle.std.specs.Prelude.{◌≡◌, true, false, not, List, Option, Some, None, ℕ, MatchBool, bytes_eq}
use Rattle.names_core.specs.Ids.{Numbered, before}
use Rattle.quantity.specs.declared.rows.Row.{Row}
use Rattle.names_core.specs.Weights.{RoleWeight}
use Rattle.cluster_model.specs.Ids.{bytes_before}
use Rattle.cluster_model.specs.Events.{MadeOffer}
use Rattle.cluster_model.specs.Masters.{Master}
use Rattle.cluster_model.specs.Rounds.{Client, clients_of, is_eligible, role_share, share_of, totals_of}
use Rattle.drf_pick.specs.Least.{StandsBy}
use Rattle.drf_shares.specs.Lists.{Among}

-- with the offers of a round so far a framework is served no later than another: its role stands
-- at most at the other's, ties by the roles' names, and within a role it stands at most at the
-- other, ties by the frameworks' ids
abbrev pub ServedFirst : List RoleWeight → Master → List MadeOffer → Client → Client → Type 0
ServedFirst ws m made c d =
    MatchBool (bytes_eq d.framework.role c.framework.role)
    (StandsBy (totals_of m) (share_of made c) (share_of made d)
    (not (before d.framework.id c.framework.id)))
    (StandsBy (totals_of m) (role_share ws (clients_of m) made c.framework.role)
    (role_share ws (clients_of m) made d.framework.role)
    (not (bytes_before d.framework.role c.framework.role)))

-- a framework to which what is free may be offered, and that is served no later than each other
-- to which it may
pub record IsServed (ws : List RoleWeight) (m : Master) (made : List MadeOffer) (agent : List ℕ)
    (free : List Row) (framework : Numbered) : Type 0 where
  pub client : Client
  pub there : Among client (clients_of m)
  pub named : client.framework.id ≡ framework
  pub eligible : is_eligible m.registers.now agent free client ≡ true
  pub first :
      (d : Client) → Among d (clients_of m) → is_eligible m.registers.now agent free d ≡ true
      → ServedFirst ws m made client d

-- what is free goes to that one, or to none where it may be offered to none
abbrev pub GoesTo : List RoleWeight → Master → List MadeOffer → List ℕ → List Row → Option Numbered
    → Type 0
GoesTo ws m made agent free (Some framework) = IsServed ws m made agent free framework
GoesTo ws m made agent free None =
    (d : Client) → Among d (clients_of m) → is_eligible m.registers.now agent free d ≡ false
