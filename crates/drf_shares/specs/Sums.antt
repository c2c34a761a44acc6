-- Sums of amounts by name: of any number of names, and of amounts up to 2^48.
use Rattle.std.specs.Prelude.{ℕ, ◌+◌, ◌<◌, ◌≤◌, Bool, true, false, nat_eq, nat_le, nat_lt, if◌then◌else◌, List, [], ◌∷◌}
use Rattle.std.specs.List.{AllByRecursion, list_all}
use Rattle.std.specs.List.Sorted.{IsStrictlySortedBy}
use Rattle.std.specs.Ordering.{nat_cmp, match_ordering}
use Rattle.std.specs.Cmp.Lexicographic.{pointwise, slice_cmp}
use Rattle.quantity.specs.declared.rows.Row.{Row}
use Rattle.quantity.specs.Rows.{amount, name_order}
pub use Rattle.quantity.specs.Rows.{raised, plus_rows}

-- as much as 256 agents can own of a name, of at most 2^40 each
abbrev pub greatest_sum : ℕ
greatest_sum = 281474976710656

-- of no name is there more than the greatest sum
abbrev pub AddUp : List Row → Type 0
AddUp rows = (name : List ℕ) → amount name rows ≤ greatest_sum

-- nor with more rows
abbrev pub CanAdd : List Row → List Row → Type 0
CanAdd rows more = (name : List ℕ) → amount name rows + amount name more ≤ greatest_sum

-- a test of that by the rows
abbrev pub fits_all : List Row → List Row → Bool
fits_all sum more = list_all (λ r. nat_le (amount r.name sum + r.amount) greatest_sum) more

-- a sum has some of this name
abbrev pub has_some : List Row → List ℕ → Bool
has_some sum name = nat_lt 0 (amount name sum)

-- a sum has some of each name of these rows
abbrev pub has_names_of : List Row → List Row → Bool
has_names_of sum more = list_all (λ r. has_some sum r.name) more

-- a row of this name comes before each of a later name
abbrev pub is_reached : List ℕ → List Row → Bool
is_reached name [] = false
is_reached name (r ∷ rows) =
    match_ordering (slice_cmp nat_cmp name r.name) false true (is_reached name rows)

-- what the first row of a name has
abbrev pub first_amount : List ℕ → List Row → ℕ
first_amount name [] = 0
first_amount name (r ∷ rows) =
    if pointwise nat_eq r.name name then r.amount else first_amount name rows

-- rows of different names, in byte order of these, each of some amount, and none above the greatest
pub record IsSum (rows : List Row) : Type 0 where
  pub ordered : IsStrictlySortedBy name_order rows
  pub positive : AllByRecursion (λ r. 0 < r.amount) rows
  pub few : AllByRecursion (λ r. r.amount ≤ greatest_sum) rows
