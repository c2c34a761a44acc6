-- Dominant shares beside those whose they are.
use Rattle.std.specs.Prelude.{ℕ, Bool, ⊤, List, [], ◌∷◌, Option, Some, None, MatchBool}
use Rattle.quantity.specs.declared.rows.Row.{Row}
use Rattle.names_core.specs.Ids.{Numbered}
use Rattle.drf_shares.specs.Dominant.{IsDominant}
use Rattle.drf_pick.specs.Shares.{Holder, RoleSum, is_holder, is_role}
pub use Rattle.drf_shares.specs.Dominant.{Part}

-- the dominant share of each is at its place; there may be more parts after them
abbrev pub AreDominant : {X : Type 0} → (X → List Row) → List Row → List X → List Part → Type 0
AreDominant held totals [] fs = ⊤
AreDominant held totals (x ∷ xs) [] = ⊥
AreDominant held totals (x ∷ xs) (f ∷ fs) =
    IsDominant totals (held x) f × AreDominant held totals xs fs

-- the same of all but the first that passes a test
abbrev pub AreDominantBut : {X : Type 0} → (X → List Row) → (X → Bool) → List Row → List X
    → List Part → Type 0
AreDominantBut held test totals [] fs = ⊤
AreDominantBut held test totals (x ∷ xs) [] = ⊥
AreDominantBut held test totals (x ∷ xs) (f ∷ fs) =
    MatchBool (test x) (AreDominant held totals xs fs)
    (IsDominant totals (held x) f × AreDominantBut held test totals xs fs)

abbrev pub holder_held : Holder → List Row
holder_held h = h.held

abbrev pub role_held : RoleSum → List Row
role_held r = r.held

-- of each framework
abbrev pub OfHolders : List Row → List Holder → List Part → Type 0
OfHolders totals hs fs = AreDominant holder_held totals hs fs

-- of each framework but one
abbrev pub OfOthers : Numbered → List Row → List Holder → List Part → Type 0
OfOthers framework totals hs fs =
    AreDominantBut holder_held (is_holder framework) totals hs fs

-- of each role
abbrev pub OfRoles : List Row → List RoleSum → List Part → Type 0
OfRoles totals rs fs = AreDominant role_held totals rs fs

-- of each role but one
abbrev pub OfOtherRoles : List ℕ → List Row → List RoleSum → List Part → Type 0
OfOtherRoles role totals rs fs = AreDominantBut role_held (is_role role) totals rs fs

-- of each role but a framework's
abbrev pub OfRolesBut : Option Holder → List Row → List RoleSum → List Part → Type 0
OfRolesBut None totals rs fs = OfRoles totals rs fs
OfRolesBut (Some h) totals rs fs = OfOtherRoles h.role totals rs fs
