-- The dominant shares of frameworks and roles.
use Rattle.std.specs.Prelude.{◌≡◌, ℕ, List, None, Some}
use Rattle.std.specs.List.{position}
use Rattle.names_core.specs.Ids.{Numbered}
use Rattle.drf_shares.specs.Dominant.{IsDominant, nothing}
use Rattle.drf_pick.specs.Shares.{Tally, is_holder, is_role}
use Rattle.drf_pick.specs.Least.{held_by, role_share}
use Rattle.drf_pick.specs.declared.client_share.ClientPlace.{ClientPlace}
use Rattle.drf_pick.specs.declared.client_share.RoleShare.{RoleShare}
use Rattle.drf_pick.specs.declared.client_share.ClientShare.{ClientShare}

-- the places of a framework and a role
pub record IsPlaceOf (t : Tally) (f : Numbered) (role : List ℕ) (p : ClientPlace) : Type 0 where
  pub holder : position (is_holder f) t.holders ≡ Some p.holder
  pub by_role : position (is_role role) t.roles ≡ Some p.role

-- a role's place, its dominant share, and its weight
pub record IsRoleShare (t : Tally) (role : List ℕ) (s : RoleShare) : Type 0 where
  pub place : s.place ≡ position (is_role role) t.roles
  pub fraction : IsDominant t.totals (role_share t.roles role).held s.fraction
  pub weight : s.weight ≡ (role_share t.roles role).weight

-- a framework's dominant share, and its role's
pub record IsClientShare (t : Tally) (f : Numbered) (role : List ℕ) (s : ClientShare) : Type 0 where
  pub own : IsDominant t.totals (held_by t f) s.own
  pub by_role : IsRoleShare t role s.role

-- the shares of one that holds nothing, whose role isn't known
abbrev pub no_share : ClientShare
no_share =
    record { own = nothing; role = record { place = None; fraction = nothing; weight = 1 } }
