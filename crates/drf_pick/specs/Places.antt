-- The places and the ranks of roles.
use Rattle.std.specs.Prelude.{◌≡◌, ℕ, List, Option, None, Some, nat_lt, slice_get}
use Rattle.std.specs.List.{position}
use Rattle.cluster_model.specs.Ids.{bytes_before}
use Rattle.drf_pick.specs.Shares.{RoleSum, is_role}

-- each role's place is found by its name, and none of a role that isn't among them
abbrev pub AreFoundBy : (List ℕ → Option ℕ) → List RoleSum → Type 0
AreFoundBy place_of rs = (role : List ℕ) → place_of role ≡ position (is_role role) rs

abbrev pub rank_in : Option (Option ℕ) → Option ℕ
rank_in None = None
rank_in (Some rank) = rank

-- the rank of the role at a place
abbrev pub rank_at : List (Option ℕ) → Option ℕ → Option ℕ
rank_at ranks None = None
rank_at ranks (Some place) = rank_in (slice_get ranks place)

-- of two roles that are ranked the one that is before the other by their names has the lower rank
abbrev pub AreRanks : (List ℕ → Option ℕ) → List (Option ℕ) → Type 0
AreRanks place_of ranks =
    (role other : List ℕ) (a b : ℕ)
    → rank_at ranks (place_of role) ≡ Some a → rank_at ranks (place_of other) ≡ Some b
    → nat_lt a b ≡ bytes_before role other
