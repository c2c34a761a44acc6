-- Sums of roles, each of some weight.
use Rattle.std.proofs.Common.{ℕ, ◌<◌, Bool, true, false, cond, List, [], ◌∷◌, ◌++◌}
use Rattle.drf_pick.specs.Shares.{AreWeighed, RoleSum, is_role, at_first}

pub changed_weighed : (t : List ℕ) (change : RoleSum → RoleSum) → ((r : RoleSum) → 0 < r.weight → 0 < (change r).weight) → (rs : List RoleSum) → AreWeighed rs → AreWeighed (at_first (is_role t) change rs)
changed_weighed t change keeps [] all = all
changed_weighed t change keeps (r ∷ rs) all = by_case (is_role t r) (changed_weighed t change keeps rs all.1)
  where
    by_case : (b : Bool) → AreWeighed (at_first (is_role t) change rs) → AreWeighed (cond b (change r ∷ rs) (r ∷ at_first (is_role t) change rs))
    by_case true ih = (keeps r all.0, all.1)
    by_case false ih = (all.0, ih)

pub push_weighed : (rs : List RoleSum) (r : RoleSum) → AreWeighed rs → 0 < r.weight → AreWeighed (rs ++ r ∷ [])
push_weighed [] r all some = (some, tt)
push_weighed (q ∷ rs) r all some = (all.0, push_weighed rs r all.1 some)
