-- The weights of roles in shares.
use Rattle.std.specs.Prelude.{◌≡◌, ℕ, List, set, get_or}
use Rattle.names_core.specs.Weights.{RoleWeight}
use Rattle.drf_pick.specs.declared.holder.RoleSum.{RoleSum}
use Rattle.drf_pick.specs.Shares.{Tally, reweighed}

abbrev pub with_roles : List RoleSum → Tally → Tally
with_roles rs t = record t { roles = rs }

-- the role at a place has its weight among some
abbrev pub IsWeighedAt : ℕ → List RoleWeight → Tally → Tally → Type 0
IsWeighedAt place ws old new =
    (r : RoleSum) × (r ≡ get_or old.roles place r)
    × (new ≡ with_roles (set old.roles place (reweighed ws r)) old)
