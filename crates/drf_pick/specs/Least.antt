-- Which framework stands least (DRF paper, section 4; Mesos paper, section 3.1).
use Rattle.std.specs.Prelude.{◌≡◌, ℕ, Bool, true, not, if◌then◌else◌, List, [], Option, Some, None, MatchBool, bytes_eq}
use Rattle.std.specs.List.{find}
use Rattle.names_core.specs.Ids.{Numbered, before}
use Rattle.quantity.specs.declared.rows.Row.{Row}
use Rattle.cluster_model.specs.Ids.{bytes_before}
use Rattle.cluster_model.specs.Rounds.{Share, share, stands_at_most_at, stands_first}
use Rattle.drf_shares.specs.Lists.{Among}
use Rattle.drf_pick.specs.Shares.{Tally, Holder, RoleSum, is_holder, is_role}
pub use Rattle.drf_pick.specs.declared.holder.Client.{Client}

abbrev pub share_of_sum : Option RoleSum → Share
share_of_sum None = share [] 1
share_of_sum (Some r) = share r.held r.weight

-- what the frameworks of a role hold, with its weight
abbrev pub role_share : List RoleSum → List ℕ → Share
role_share rs role = share_of_sum (find (is_role role) rs)

abbrev pub held_of : Option Holder → List Row
held_of None = []
held_of (Some h) = h.held

-- what a framework holds
abbrev pub held_by : Tally → Numbered → List Row
held_by t framework = held_of (find (is_holder framework) t.holders)

-- a framework of a role, with what it holds
abbrev pub holder_for : Tally → Numbered → List ℕ → Holder
holder_for t framework role =
    record { framework = framework; role = role; held = held_by t framework }

abbrev pub client_holder : Tally → Client → Holder
client_holder t c = holder_for t c.framework c.role

-- the one that stands least

-- the first stands at most at the second (Stands at most at),
-- and where the second stands at most at the first the tie is the first's
pub record StandsBy (totals : List Row) (a b : Share) (tie : Bool) : Type 0 where
  pub at_most : stands_at_most_at totals a b ≡ true
  pub tied : stands_at_most_at totals b a ≡ true → tie ≡ true

-- the first is served no later than the second: by their roles, ties by the roles' names,
-- and within a role by themselves, ties by their ids
abbrev pub StandsLeast : Tally → Holder → Holder → Type 0
StandsLeast t c d =
    MatchBool (bytes_eq d.role c.role)
    (StandsBy t.totals (share c.held 1) (share d.held 1) (not (before d.framework c.framework)))
    (StandsBy t.totals (role_share t.roles c.role) (role_share t.roles d.role)
    (not (bytes_before d.role c.role)))

-- the framework of a client that stands least of all clients
pub record IsPicked (t : Tally) (cs : List Client) (framework : Numbered) : Type 0 where
  pub client : Client
  pub there : Among client cs
  pub named : client.framework ≡ framework
  pub least : (d : Client) → Among d cs → StandsLeast t (client_holder t client) (client_holder t d)

-- which framework is picked of some clients: none where there is no client
abbrev pub IsPick : Tally → List Client → Option Numbered → Type 0
IsPick t cs None = cs ≡ []
IsPick t cs (Some framework) = IsPicked t cs framework

-- the same, one after another

abbrev pub comes_within_role : Tally → Numbered → Numbered → Bool
comes_within_role t f g =
    stands_first t.totals (share (held_by t f) 1) (share (held_by t g) 1) (before f g)

abbrev pub comes_by_role : Tally → List ℕ → List ℕ → Bool
comes_by_role t r q =
    stands_first t.totals (role_share t.roles r) (role_share t.roles q) (bytes_before r q)

-- the first is served rather than the second: by their roles,
-- and within a role by themselves, where each counts alike
abbrev pub comes_before : Tally → Holder → Holder → Bool
comes_before t c d =
    if bytes_eq c.role d.role
    then stands_first t.totals (share c.held 1) (share d.held 1) (before c.framework d.framework)
    else stands_first t.totals (role_share t.roles c.role) (role_share t.roles d.role)
    (bytes_before c.role d.role)

abbrev pub better : Tally → Option Holder → Holder → Option Holder
better t None c = Some c
better t (Some d) c = if comes_before t c d then Some c else Some d

abbrev pub better_client : Tally → Option Client → Client → Option Client
better_client t None c = Some c
better_client t (Some d) c =
    if comes_before t (client_holder t c) (client_holder t d) then Some c else Some d
