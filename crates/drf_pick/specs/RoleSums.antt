-- What roles hold is what their frameworks hold.
use Rattle.std.specs.Prelude.{◌≡◌, ℕ, true, List}
use Rattle.std.specs.List.{AllByRecursion}
use Rattle.quantity.specs.Laws.{SameAmounts}
use Rattle.drf_shares.specs.Sums.{AddUp}
use Rattle.drf_pick.specs.Shares.{Holder, RoleSum, all_held, held_in, is_known}
use Rattle.drf_pick.specs.Least.{role_share}

-- each framework's role is known, each role holds what its frameworks hold,
-- and of no name do frameworks hold more than the greatest sum together
pub record AreSums (hs : List Holder) (rs : List RoleSum) : Type 0 where
  pub known : AllByRecursion (λ h. is_known rs h.role ≡ true) hs
  pub held : (role : List ℕ) → SameAmounts (role_share rs role).held (held_in role hs)
  pub within : AddUp (all_held hs)
