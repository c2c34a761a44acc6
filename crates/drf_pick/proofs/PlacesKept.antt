-- Places stay when more is given.
use Rattle.std.proofs.Common.{◌≡◌, ◌<◌, ℕ, suc, ◌+◌, Bool, true, false, not, cond, List, [], ◌∷◌, length, Option, Some, None, refl, ap, ◌∙◌}
use Rattle.std.specs.List.{find, position, position_or_len}
use Rattle.names_core.specs.Ids.{Numbered}
use Rattle.quantity.specs.declared.rows.Row.{Row}
use Rattle.drf_pick.specs.Shares.{Holder, RoleSum, Tally, at_first, given_roles, held_more, holding, is_holder, is_role, role_holding}
use Rattle.drf_pick.specs.ClientShares.{IsPlaceOf}
use Rattle.drf_pick.specs.declared.client_share.ClientPlace.{ClientPlace}
use Rattle.drf_pick.proofs.KeptShares.{stands}

module _ {X : Type 0} (test other : X → Bool) (change : X → X) (same : (x : X) → test (change x) ≡ test x) where
  length_same : (xs : List X) → length (at_first other change xs) ≡ length xs
  length_same [] = refl
  length_same (x ∷ xs) = by_case (other x) (length_same xs)
    where
      by_case : (b : Bool) → length (at_first other change xs) ≡ length xs → length (cond b (change x ∷ xs) (x ∷ at_first other change xs)) ≡ suc (length xs)
      by_case true rest = refl
      by_case false rest = ap suc rest

  first_same : (xs : List X) → position_or_len test (at_first other change xs) ≡ position_or_len test xs
  first_same [] = refl
  first_same (x ∷ xs) = by_case (other x) (first_same xs)
    where
      by_case : (b : Bool) → position_or_len test (at_first other change xs) ≡ position_or_len test xs → position_or_len test (cond b (change x ∷ xs) (x ∷ at_first other change xs)) ≡ position_or_len test (x ∷ xs)
      by_case true rest = ap (λ (v : Bool). cond (not v) (1 + position_or_len test xs) 0) (same x)
      by_case false rest = ap (λ (n : ℕ). cond (not (test x)) (1 + n) 0) rest

  position_same : (xs : List X) → position test (at_first other change xs) ≡ position test xs
  position_same xs = rw (first_same xs, length_same xs) refl

roles_same : (role : List ℕ) (rows : List Row) (found : Option Holder) (rs : List RoleSum) → position (is_role role) (given_roles rows found rs) ≡ position (is_role role) rs
roles_same role rows None rs = refl
roles_same role rows (Some h) rs = position_same (is_role role) (is_role h.role) (role_holding rows) (λ r. refl) rs

pub place_kept : (framework : Numbered) (rows : List Row) (t : Tally) (f : Numbered) (role : List ℕ) (p : ClientPlace) → IsPlaceOf t f role p → IsPlaceOf (held_more framework rows t) f role p
place_kept framework rows t f role p is = record {
  holder = position_same (is_holder f) (is_holder framework) (holding rows) (λ h. refl) t.holders ∙ is.holder;
  by_role = roles_same role rows (find (is_holder framework) t.holders) t.roles ∙ is.by_role;
}

-- and lie within
pub holder_within : (t : Tally) (f : Numbered) (role : List ℕ) (p : ClientPlace) → IsPlaceOf t f role p → p.holder < length t.holders
holder_within t f role p is = (stands (is_holder f) t.holders p.holder is.holder).within

pub role_within : (t : Tally) (f : Numbered) (role : List ℕ) (p : ClientPlace) → IsPlaceOf t f role p → p.role < length t.roles
role_within t f role p is = (stands (is_role role) t.roles p.role is.by_role).within
