-- The weights of roles (DRF paper, section 4.3).
use Rattle.std.specs.Prelude.{ℕ, ◌≤◌, List, [], ◌∷◌, String, string_bytes, map, bytes_eq, if◌then◌else◌}
use Rattle.std.specs.List.{AllByRecursion}
use Rattle.std.specs.Ordering.{nat_cmp, match_ordering}
use Rattle.std.specs.Cmp.Lexicographic.{slice_cmp}

abbrev pub greatest_weight : ℕ
greatest_weight = 1000

-- a weight that a role can have
abbrev pub IsWeight : ℕ → Type 0
IsWeight n = (1 ≤ n) × (n ≤ greatest_weight)

-- a role and its weight
pub record RoleWeight : Type 0 where
  pub role : List ℕ
  pub weight : ℕ

-- the weight of a role; one that isn't named has 1
abbrev pub weight_of : List RoleWeight → List ℕ → ℕ
weight_of [] role = 1
weight_of (w ∷ ws) role = if bytes_eq role w.role then w.weight else weight_of ws role

-- each named role has a weight in the range
abbrev pub AreWeights : List RoleWeight → Type 0
AreWeights ws = AllByRecursion (λ w. IsWeight w.weight) ws

abbrev pub role_weight : List ℕ → ℕ → RoleWeight
role_weight role weight = record { role = role; weight = weight }

-- in its place by the role's name, in place of what the role had
abbrev pub with_weight : List ℕ → ℕ → List RoleWeight → List RoleWeight
with_weight role weight [] = role_weight role weight ∷ []
with_weight role weight (w ∷ ws) =
    match_ordering (slice_cmp nat_cmp role w.role)
    (role_weight role weight ∷ w ∷ ws)
    (role_weight w.role weight ∷ ws)
    (w ∷ with_weight role weight ws)

-- the weights that the entries of a map name
abbrev pub weights_in : {Y : Type 0} → List (String Y × ℕ) → List RoleWeight
weights_in entries = map (λ e. role_weight (string_bytes e.0) e.1) entries
