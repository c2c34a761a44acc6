-- What frameworks and roles hold, and what all agents own.
use Rattle.std.specs.Prelude.{◌≡◌, ◌<◌, ⊤, ℕ, Bool, true, false, ◌&&◌, if◌then◌else◌, List, [], ◌∷◌, ◌++◌, map, flat_map, Option, Some, None, bytes_eq}
use Rattle.std.specs.List.{AllByRecursion, find, list_any}
use Rattle.names_core.specs.Ids.{Numbered, before, same}
use Rattle.quantity.specs.declared.rows.Row.{Row}
use Rattle.quantity.specs.Rows.{covers, rest_of}
use Rattle.names_core.specs.Weights.{RoleWeight, weight_of}
use Rattle.drf_shares.specs.Sums.{CanAdd, plus_rows}
pub use Rattle.drf_pick.specs.declared.holder.Holder.{Holder}
pub use Rattle.drf_pick.specs.declared.holder.RoleSum.{RoleSum}

pub record Tally : Type 0 where
  pub totals : List Row  -- what all agents own
  pub holders : List Holder  -- the frameworks that are registered with a role, with what they hold
  pub roles : List RoleSum  -- with what their frameworks hold, and their weights

abbrev pub is_holder : Numbered → Holder → Bool
is_holder framework h = same h.framework framework

abbrev pub is_role : List ℕ → RoleSum → Bool
is_role role r = bytes_eq r.role role

abbrev pub is_known : List RoleSum → List ℕ → Bool
is_known rs role = list_any (is_role role) rs

-- what all frameworks hold, and what the frameworks of a role hold

abbrev pub all_held : List Holder → List Row
all_held hs = flat_map (λ h. h.held) hs

abbrev pub held_in : List ℕ → List Holder → List Row
held_in role hs = flat_map (λ h. if bytes_eq h.role role then h.held else []) hs

-- agents can own more, and frameworks can hold more: no sum of a name passes the greatest then

abbrev pub CanOwn : List Row → Tally → Type 0
CanOwn total t = CanAdd t.totals total

abbrev pub CanHold : List Row → Tally → Type 0
CanHold rows t = CanAdd (all_held t.holders) rows

-- the first that passes a test is changed
abbrev pub at_first : {A : Type 0} → (A → Bool) → (A → A) → List A → List A
at_first test change [] = []
at_first test change (x ∷ xs) = if test x then change x ∷ xs else x ∷ at_first test change xs

abbrev pub holding : List Row → Holder → Holder
holding rows h = record h { held = plus_rows h.held rows }

abbrev pub role_holding : List Row → RoleSum → RoleSum
role_holding rows r = record r { held = plus_rows r.held rows }

-- agents own this together
abbrev pub with_totals : List Row → Tally → Tally
with_totals totals t = record t { totals = totals }

abbrev pub entered : List Row → Tally → Tally
entered total t = record t { totals = plus_rows t.totals total }

abbrev pub given_holders : Numbered → List Row → List Holder → List Holder
given_holders framework rows hs = at_first (is_holder framework) (holding rows) hs

abbrev pub given_roles : List Row → Option Holder → List RoleSum → List RoleSum
given_roles rows None rs = rs
given_roles rows (Some h) rs = at_first (is_role h.role) (role_holding rows) rs

-- a framework that is registered holds more, and so does its role
abbrev pub held_more : Numbered → List Row → Tally → Tally
held_more framework rows t = record t {
  holders = given_holders framework rows t.holders;
  roles = given_roles rows (find (is_holder framework) t.holders) t.roles;
}

abbrev pub holder_with : Numbered → List ℕ → List Row → Holder
holder_with framework role held = record { framework = framework; role = role; held = held }

abbrev pub holder_of : Numbered → List ℕ → Holder
holder_of framework role = holder_with framework role []

abbrev pub role_sum_with : List ℕ → List Row → RoleSum
role_sum_with role held = record { role = role; held = held; weight = 1 }

abbrev pub role_sum_of : List ℕ → RoleSum
role_sum_of role = role_sum_with role []

abbrev pub roles_with : List ℕ → List RoleSum → Option RoleSum → List RoleSum
roles_with role rs None = rs ++ role_sum_of role ∷ []
roles_with role rs (Some r) = rs

-- a role holds more; one that isn't known is added
abbrev pub role_given : List ℕ → List Row → List RoleSum → List RoleSum
role_given role rows rs =
    at_first (is_role role) (role_holding rows) (roles_with role rs (find (is_role role) rs))

-- the role of frameworks that name none: `*`
abbrev pub any_role : List ℕ
any_role = 42 ∷ []

abbrev pub given_to : Numbered → List Row → Tally → Option Holder → Tally
given_to framework rows t (Some h) = held_more framework rows t
given_to framework rows t None = record t {
  holders = t.holders ++ holder_with framework any_role (plus_rows [] rows) ∷ [];
  roles = role_given any_role (plus_rows [] rows) t.roles;
}

-- a framework holds more, and so does its role; one that isn't registered is of the role `*` then
abbrev pub given : Numbered → List Row → Tally → Tally
given framework rows t = given_to framework rows t (find (is_holder framework) t.holders)

abbrev pub of_role : List ℕ → Holder → Holder
of_role role h = record h { role = role }

abbrev pub role_returning : List Row → RoleSum → RoleSum
role_returning rows r = record r { held = rest_of r.held rows }

abbrev pub with_held : List Row → RoleSum → RoleSum
with_held rows r = record r { held = rows }

-- what was held of one role is held of another
abbrev pub roles_moved : List ℕ → List ℕ → List Row → List RoleSum → List RoleSum
roles_moved from to rows rs =
    if bytes_eq from to then rs
    else at_first (is_role from) (role_returning rows) (role_given to rows rs)

abbrev pub roles_moved_of : List ℕ → List RoleSum → Option Holder → List RoleSum
roles_moved_of to rs None = rs
roles_moved_of to rs (Some h) = roles_moved h.role to h.held rs

abbrev pub with_holder : Numbered → List ℕ → Tally → Option Holder → Tally
with_holder framework role t None = record t {
  holders = t.holders ++ holder_of framework role ∷ [];
  roles = roles_with role t.roles (find (is_role role) t.roles);
}
with_holder framework role t (Some h) = record t {
  holders = at_first (is_holder framework) (of_role role) t.holders;
  roles = roles_moved_of role t.roles (Some h);
}

-- a framework is registered with this role; it holds nothing yet, but where it is registered
-- already: then what it holds moves from its role to this one
abbrev pub with_role : Numbered → List ℕ → Tally → Tally
with_role framework role t = with_holder framework role t (find (is_holder framework) t.holders)

-- what is taken away again

-- so much is there to be taken away of what agents own
abbrev pub can_leave : List Row → Tally → Bool
can_leave total t = covers t.totals total

abbrev pub departed : List Row → Tally → Tally
departed total t = record t { totals = rest_of t.totals total }

abbrev pub role_has : List Row → Option RoleSum → Bool
role_has rows None = false
role_has rows (Some r) = covers r.held rows

abbrev pub holder_has : List Row → List RoleSum → Option Holder → Bool
holder_has rows rs None = false
holder_has rows rs (Some h) = covers h.held rows && role_has rows (find (is_role h.role) rs)

-- so much is there to be taken away of what a framework and its role hold
abbrev pub can_back : Numbered → List Row → Tally → Bool
can_back framework rows t = holder_has rows t.roles (find (is_holder framework) t.holders)

abbrev pub returning : List Row → Holder → Holder
returning rows h = record h { held = rest_of h.held rows }

abbrev pub returned_holders : Numbered → List Row → List Holder → List Holder
returned_holders framework rows hs = at_first (is_holder framework) (returning rows) hs

abbrev pub returned_roles : List Row → Option Holder → List RoleSum → List RoleSum
returned_roles rows None rs = rs
returned_roles rows (Some h) rs = at_first (is_role h.role) (role_returning rows) rs

abbrev pub returned : Numbered → List Row → Tally → Tally
returned framework rows t = record t {
  holders = returned_holders framework rows t.holders;
  roles = returned_roles rows (find (is_holder framework) t.holders) t.roles;
}

-- weights

abbrev pub weighing : ℕ → RoleSum → RoleSum
weighing weight r = record r { weight = weight }

abbrev pub roles_weighed : List ℕ → ℕ → List RoleSum → List RoleSum
roles_weighed role weight rs =
    at_first (is_role role) (weighing weight) (roles_with role rs (find (is_role role) rs))

-- a role has this weight from now on; one that isn't known yet has it when frameworks register
abbrev pub weighed : List ℕ → ℕ → Tally → Tally
weighed role weight t = record t { roles = roles_weighed role weight t.roles }

-- each role that is known has its weight among some

abbrev pub reweighed : List RoleWeight → RoleSum → RoleSum
reweighed weights r = record r { weight = weight_of weights r.role }

abbrev pub all_weighed : List RoleWeight → Tally → Tally
all_weighed weights t = record t { roles = map (reweighed weights) t.roles }

-- no framework is listed twice
abbrev pub HoldersOnce : List Holder → Type 0
HoldersOnce [] = ⊤
HoldersOnce (h ∷ hs) = (find (is_holder h.framework) hs ≡ None) × HoldersOnce hs

-- the framework is after the last one, by their ids
abbrev pub is_behind : Option Numbered → Numbered → Bool
is_behind None framework = true
is_behind (Some last) framework = before last framework

-- no framework is after the last one
abbrev pub AreUpTo : Option Numbered → List Holder → Type 0
AreUpTo None hs = hs ≡ []
AreUpTo (Some last) hs = AllByRecursion (λ h. before last h.framework ≡ false) hs

-- no role is listed twice
abbrev pub RolesOnce : List RoleSum → Type 0
RolesOnce [] = ⊤
RolesOnce (r ∷ rs) = (find (is_role r.role) rs ≡ None) × RolesOnce rs

-- each role has some weight
abbrev pub AreWeighed : List RoleSum → Type 0
AreWeighed rs = AllByRecursion (λ r. 0 < r.weight) rs
