-- What a book keeps of its agents, and the accounts that it stands for.
use Rattle.std.specs.Prelude.{◌≡◌, ℕ, zero, suc, ◌-◌, ◌<◌, nat_eq, nat_le, Bool, false, true, ◌&&◌, if◌then◌else◌, ◌⊎◌, List, [], ◌∷◌, ◌++◌, map, length, slice_index_or, Option, None, Some}
use Rattle.std.specs.List.{IsDistinct, AllByRecursion, list_all}
use Rattle.std.specs.Cmp.Lexicographic.{pointwise}
use Rattle.std.specs.Prelude.{bytes_eq}
use Rattle.quantity.specs.declared.rows.Row.{Row}
use Rattle.quantity.specs.Rows.{amount, covers, IsPlus}
use Rattle.messages.specs.declared.task.Offer.{Offer}
use Rattle.messages.specs.declared.task.Booked.{Booked}
use Rattle.offer_tables.specs.Accounts.{Account, taken_by}
use Rattle.offer_tables.specs.declared.agents.AgentRow.{AgentRow}

-- an agent's account, by what is kept of it and the lists at its place
abbrev pub account : AgentRow → List Offer → List Booked → Account
account r os bs =
    record { name = r.name; is_in = r.is_in; total = r.total; offers = os; booked = bs }

abbrev pub accounts : List AgentRow → List (List Offer) → List (List Booked) → List Account
accounts [] offers tasks = []
accounts (r ∷ rows) [] tasks = []
accounts (r ∷ rows) (os ∷ offers) [] = []
accounts (r ∷ rows) (os ∷ offers) (bs ∷ tasks) = account r os bs ∷ accounts rows offers tasks

-- how much of the resource of a row is left beside what is taken
abbrev pub left_in : List Row → Row → ℕ
left_in taken r = r.amount - amount r.name taken

-- what is left of each resource of a total, in the order of its rows
abbrev pub amounts_left : List Row → List Row → List ℕ
amounts_left total taken = map (left_in taken) total

-- what is left of a name, by the amounts left of a total's rows; nothing where no row has the name
abbrev pub left_at : List ℕ → List Row → List ℕ → ℕ
left_at name [] left = 0
left_at name (r ∷ total) [] = 0
left_at name (r ∷ total) (n ∷ left) =
    if pointwise nat_eq r.name name then n else left_at name total left

-- as much is left of each name as more has of it
abbrev pub has_room_in : List Row → List ℕ → List Row → Bool
has_room_in total left more =
    list_all (λ r. nat_le (amount r.name more) (left_at r.name total left)) more

-- the free part of an agent is what its offers and its tasks that haven't ended leave of its total,
-- which covers them, and an agent that isn't in has none
pub record IsRow (r : AgentRow) (os : List Offer) (bs : List Booked) : Type 0 where
  pub free : r.free ≡ amounts_left r.total (taken_by os bs)
  pub covered : covers r.total (taken_by os bs) ≡ true
  pub out : r.is_in ≡ false → (os ≡ []) × (bs ≡ [])

-- these lists are empty
abbrev pub AreEmpty : {X : Type 0} → List (List X) → Type 0
AreEmpty l = AllByRecursion (λ xs. xs ≡ []) l

-- there is a list of offers and a list of tasks for each agent, and each row is as they say;
-- there may be more lists, which are empty
abbrev pub Rows : List AgentRow → List (List Offer) → List (List Booked) → Type 0
Rows [] offers tasks = AreEmpty offers × AreEmpty tasks
Rows (r ∷ rows) [] tasks = ⊥
Rows (r ∷ rows) (os ∷ offers) [] = ⊥
Rows (r ∷ rows) (os ∷ offers) (bs ∷ tasks) = IsRow r os bs × Rows rows offers tasks

-- the names lead to just the rows that have them, and no two are the same
pub record IsBook (names : List (List ℕ)) (rows : List AgentRow) (offers : List (List Offer))
    (tasks : List (List Booked)) : Type 0 where
  pub named : names ≡ map (λ r. r.name) rows
  pub apart : IsDistinct bytes_eq names
  pub each : Rows rows offers tasks

-- the row of the agent of this name, where the agent is in
abbrev pub is_row_of : List ℕ → AgentRow → Bool
is_row_of name r = r.is_in && bytes_eq r.name name

-- the row has this name
abbrev pub is_row_named : List ℕ → AgentRow → Bool
is_row_named name r = bytes_eq r.name name

-- it is the place of the first row that passes a test
abbrev pub IsFirst : (AgentRow → Bool) → List AgentRow → Option ℕ → Type 0
IsFirst test rows None =
    (k : ℕ) (d : AgentRow) → k < length rows → test (slice_index_or rows k d) ≡ false
IsFirst test rows (Some p) =
    (p < length rows) × ((d : AgentRow) → test (slice_index_or rows p d) ≡ true)
    × ((k : ℕ) (d : AgentRow) → k < p → test (slice_index_or rows k d) ≡ false)

abbrev pub IsPlaceOf : List ℕ → List AgentRow → Option ℕ → Type 0
IsPlaceOf name rows p = IsFirst (is_row_of name) rows p

-- the same rows, but for the one at a place, which has changed so
abbrev pub ChangedAt : (AgentRow → AgentRow → Type 0) → ℕ → List AgentRow → List AgentRow → Type 0
ChangedAt R p [] rows = ⊥
ChangedAt R p (r ∷ old) [] = ⊥
ChangedAt R zero (r ∷ old) (s ∷ new) = R r s × (old ≡ new)
ChangedAt R (suc p) (r ∷ old) (s ∷ new) = (r ≡ s) × ChangedAt R p old new

-- the free part of the agent is this
abbrev pub IsLeft : List ℕ → AgentRow → AgentRow → Type 0
IsLeft free r s = s ≡ record r { free = free }

-- what is left of a total where these rows are taken of it too
abbrev pub TakesMore : List Row → List Row → List ℕ → List ℕ → Type 0
TakesMore total more old new =
    (taken : List Row) → old ≡ amounts_left total taken → new ≡ amounts_left total (more ++ taken)

-- what was left of a total that these rows and others were taken of is now what the others leave
abbrev pub GivesBack : List Row → List Row → List ℕ → List ℕ → Type 0
GivesBack total more old new =
    (taken others : List Row) → old ≡ amounts_left total taken → covers total taken ≡ true
    → IsPlus taken others more → new ≡ amounts_left total others

-- these rows are given back
pub record IsGivenBack (more : List Row) (r s : AgentRow) : Type 0 where
  pub same_name : s.name ≡ r.name
  pub same_in : s.is_in ≡ r.is_in
  pub same_total : s.total ≡ r.total
  pub back : GivesBack r.total more r.free s.free

-- the agent is in or not, owns this, and all of it is free
abbrev pub IsEmptied : Bool → List Row → AgentRow → AgentRow → Type 0
IsEmptied is_in total r s =
    s ≡ record { name = r.name; is_in = is_in; total = total; free = amounts_left total [] }

-- the same lists, or one more, which is empty
abbrev pub SameOrMore : {X : Type 0} → List (List X) → List (List X) → Type 0
SameOrMore old new = (new ≡ old) ⊎ (new ≡ old ++ [] ∷ [])

-- what the agent owns is this, and all of it is free
abbrev pub IsReset : List Row → AgentRow → AgentRow → Type 0
IsReset total r s = s ≡ record r { total = total; free = amounts_left total [] }
