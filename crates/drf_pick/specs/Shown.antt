-- Shares that show what frameworks are allocated.
use Rattle.std.specs.Prelude.{◌≡◌, ⊤, ℕ, Bool, true, false, if◌then◌else◌, List, [], ◌∷◌, ◌++◌, map, flat_map, Option, Some, None, IfSome}
use Rattle.std.specs.List.{AllByRecursion, find}
use Rattle.names_core.specs.Ids.{Numbered, same}
use Rattle.quantity.specs.declared.rows.Row.{Row}
use Rattle.quantity.specs.Rows.{amount}
use Rattle.quantity.specs.Laws.{SameAmounts}
use Rattle.names_core.specs.Weights.{RoleWeight, weight_of}
use Rattle.drf_shares.specs.Sums.{IsSum}
use Rattle.drf_shares.specs.declared.fault.SharesFault.{SharesFault}
use Rattle.drf_shares.specs.declared.fault.SharesFault.TheVariants.{OutOfMemory}
pub use Rattle.drf_pick.specs.Shares.{is_known}
use Rattle.drf_pick.specs.Shares.{Tally, Holder, RoleSum, is_holder, is_role}
use Rattle.drf_pick.specs.Least.{role_share}
use Rattle.drf_pick.specs.Allocations.{Allocation, Client, CountedShares, Found, role_rows, rows_to}

-- none of the frameworks has this id
abbrev pub NoneOf : Numbered → List Client → Type 0
NoneOf id cs = AllByRecursion (λ c. same c.framework id ≡ false) cs

-- no framework is listed twice
abbrev pub ClientsOnce : List Client → Type 0
ClientsOnce [] = ⊤
ClientsOnce (c ∷ cs) = NoneOf c.framework cs × ClientsOnce cs

-- a framework is registered with its role, and holds what it is allocated
abbrev pub Shows : List Allocation → Holder → Client → Type 0
Shows gs h c =
    (h.framework ≡ c.framework) × (h.role ≡ c.role)
    × SameAmounts h.held (rows_to c.framework gs)

-- just these frameworks are registered
abbrev pub HoldersShow : List Allocation → List Holder → List Client → Type 0
HoldersShow gs [] [] = ⊤
HoldersShow gs [] (c ∷ cs) = ⊥
HoldersShow gs (h ∷ hs) [] = ⊥
HoldersShow gs (h ∷ hs) (c ∷ cs) = Shows gs h c × HoldersShow gs hs cs

-- each known role holds what its frameworks are allocated
abbrev pub RolesShow : List Allocation → List Client → List RoleSum → Type 0
RolesShow gs cs rs =
    (role : List ℕ) → is_known rs role ≡ true
    → SameAmounts (role_share rs role).held (role_rows cs role gs)

-- the shares show what these frameworks are allocated
pub record TallyShows (gs : List Allocation) (cs : List Client) (t : Tally) : Type 0 where
  pub holders : HoldersShow gs t.holders cs
  pub known : AllByRecursion (λ c. is_known t.roles c.role ≡ true) cs
  pub roles : RolesShow gs cs t.roles

-- each known role has its weight
abbrev pub WeightsShow : List RoleWeight → List RoleSum → Type 0
WeightsShow ws rs =
    (role : List ℕ) → is_known rs role ≡ true → (role_share rs role).weight ≡ weight_of ws role

-- the same amounts of every name, for each framework
abbrev pub SameAllocations : List Allocation → List Allocation → Type 0
SameAllocations gs hs =
    (framework : Numbered) → SameAmounts (rows_to framework gs) (rows_to framework hs)

-- what a framework and its role hold are sums, where it is registered
abbrev pub HoldSums : Numbered → Tally → Type 0
HoldSums framework t =
    IfSome (find (is_holder framework) t.holders)
    (λ h. IsSum h.held × IfSome (find (is_role h.role) t.roles) (λ r. IsSum r.held))

-- shares that show this part of a framework show the rest when it is taken back
abbrev pub TakesBack : Numbered → List Row → Tally → Tally → Type 0
TakesBack framework rows one other =
    (cs : List Client) (rest more : List Allocation) → ClientsOnce cs
    → TallyShows (rest ++ record { framework = framework; resources = rows } ∷ more) cs one
    → TallyShows (rest ++ more) cs other

-- where the shares show these allocations, beside others, memory was refused
abbrev pub MemoryRefused : List Allocation → Tally → SharesFault → Type 0
MemoryRefused held t fault =
    (cs : List Client) (rest : List Allocation) → ClientsOnce cs → TallyShows (rest ++ held) cs t
    → fault ≡ OutOfMemory

-- what is counted of what was found on agents

-- what was found on all agents
abbrev pub all_found : List Found → List Allocation
all_found fs = flat_map (λ f. f.allocations.items) fs

-- what the shares have of what was found on an agent, and what they don't have yet

abbrev pub counted_in : Found → List Allocation
counted_in f = if f.is_counted then f.allocations.items else []

abbrev pub due_in : Found → List Allocation
due_in f = if f.is_counted then [] else f.allocations.items

abbrev pub uncounted : Found → Found
uncounted f = record { allocations = f.allocations; is_counted = false }

-- the same on all agents
abbrev pub counted_of : List Found → List Allocation
counted_of fs = flat_map counted_in fs

-- what an agent owns, where it has entered
abbrev pub rows_owned : Option (List Row) → List Row
rows_owned None = []
rows_owned (Some rows) = rows

-- what the agents own that have entered
abbrev pub all_owned : List (Option (List Row)) → List Row
all_owned os = flat_map rows_owned os

-- just these frameworks are registered, none twice, and the shares show what is counted,
-- and what the agents own that have entered
pub record AreCounted (cs : List Client) (k : CountedShares) : Type 0 where
  pub once : ClientsOnce cs
  pub shown : TallyShows (counted_of k.found.items) cs k.shares
  pub owned : SameAmounts k.shares.totals (all_owned k.owned.items)

-- some frameworks are
abbrev pub IsCounted : CountedShares → Type 0
IsCounted k = (cs : List Client) × AreCounted cs k

-- the shares still show what is counted, whichever frameworks are registered
abbrev pub StayCounted : CountedShares → CountedShares → Type 0
StayCounted one other = (cs : List Client) → AreCounted cs one → AreCounted cs other

-- shares that show what is counted in the one show what is counted in the other, beside the rest
abbrev pub Moves : Found → Found → Tally → Tally → Type 0
Moves f g one other =
    (cs : List Client) (rest : List Allocation) → ClientsOnce cs
    → TallyShows (rest ++ counted_in f) cs one → TallyShows (rest ++ counted_in g) cs other

-- the same was found on each agent
abbrev pub SameFound : List Found → List Found → Type 0
SameFound fs gs = map (λ f. f.allocations) gs ≡ map (λ f. f.allocations) fs

-- all that was found is counted
abbrev pub AllCounted : List Found → Type 0
AllCounted fs = AllByRecursion (λ f. f.is_counted ≡ true) fs

abbrev pub is_for : Numbered → Allocation → Bool
is_for framework a = same a.framework framework

-- a framework has nothing of these
abbrev pub HasNone : Numbered → List Allocation → Type 0
HasNone framework as_ = (name : List ℕ) → amount name (rows_to framework as_) ≡ 0
