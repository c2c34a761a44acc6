-- Rows: amounts of named resources.
use Rattle.std.specs.Prelude.{◌≡◌, ℕ, ◌+◌, ◌-◌, ◌<◌, ◌≤◌, ◌^◌, Bool, ◌==◌, not, IsTrue, nat_eq, nat_lt, nat_le, if◌then◌else◌, List, [], ◌∷◌, length, map, filter, fold, sum_by, Result, Ok, Err}
use Rattle.std.specs.List.{list_all, list_any, AllByRecursion}
use Rattle.std.specs.List.Sorted.{IsStrictlySortedBy}
use Rattle.std.specs.declared.cmp.Ordering.{Ordering}
use Rattle.std.specs.Ordering.{nat_cmp, match_ordering}
use Rattle.std.specs.Cmp.Lexicographic.{pointwise, slice_cmp}
use Rattle.quantity.specs.Names.{is_resource_name}
use Rattle.quantity.specs.declared.fault.QuantityFault.{QuantityFault}
use Rattle.quantity.specs.declared.fault.QuantityFault.TheVariants.{TooLarge, NotCovered, TooManyNames, BadName}
pub use Rattle.quantity.specs.declared.rows.Row.{Row}

-- what a row has of a name
abbrev pub part_of : List ℕ → Row → ℕ
part_of name r = if pointwise nat_eq r.name name then r.amount else 0

-- how much of a name rows have: the sum over them
abbrev pub amount : List ℕ → List Row → ℕ
amount name rows = sum_by (part_of name) rows

-- the amounts of the first are those of both others together
abbrev pub IsPlus : List Row → List Row → List Row → Type 0
IsPlus sum rows others = (name : List ℕ) → amount name sum ≡ amount name rows + amount name others

-- the amounts of the first are those of the second, less those of the third
abbrev pub IsMinus : List Row → List Row → List Row → Type 0
IsMinus rest rows others =
    (name : List ℕ) → amount name rest ≡ amount name rows - amount name others

-- the first rows have at least as much of every name as the second
abbrev pub covers : List Row → List Row → Bool
covers total rows = list_all (λ r. nat_le (amount r.name rows) (amount r.name total)) rows

-- the byte order of names
abbrev pub name_order : Row → Row → Ordering
name_order r s = slice_cmp nat_cmp r.name s.name

abbrev pub greatest_amount : ℕ
greatest_amount = 2 ^ 40

abbrev pub names_limit : ℕ
names_limit = 8

-- a row of some amount
pub record IsRow (r : Row) : Type 0 where
  pub named : IsTrue (is_resource_name r.name)
  pub positive : 0 < r.amount
  pub at_most : r.amount ≤ greatest_amount

-- rows of different names, in byte order of these
pub record AreRows (rows : List Row) : Type 0 where
  pub ordered : IsStrictlySortedBy name_order rows
  pub each : AllByRecursion IsRow rows
  pub few : length rows ≤ names_limit

abbrev pub row : List ℕ → ℕ → Row
row name n = record { name = name; amount = n }

-- rows with more of one name, which gets a row in its place where it has none
abbrev pub raised : List ℕ → ℕ → List Row → List Row
raised name n [] = row name n ∷ []
raised name n (r ∷ rows) =
    match_ordering (slice_cmp nat_cmp name r.name)
    (row name n ∷ r ∷ rows)
    (row name (r.amount + n) ∷ rows)
    (r ∷ raised name n rows)

-- the rows of a sum: the first rows, raised by each of the second
abbrev pub plus_rows : List Row → List Row → List Row
plus_rows rows others = fold (λ sum r. raised r.name r.amount sum) rows others

-- a row less what is taken of its name
abbrev pub left_of : List Row → Row → Row
left_of taken r = row r.name (r.amount - amount r.name taken)

-- what is left of a total: each row less what is taken of its name, where something is left
abbrev pub rest_of : List Row → List Row → List Row
rest_of total taken = filter (λ r. nat_lt 0 r.amount) (map (left_of taken) total)

-- rows that keep within the limits
abbrev pub within_limits : List Row → Result (List Row) QuantityFault
within_limits rows =
    if list_any (λ r. nat_lt greatest_amount r.amount) rows then Err TooLarge
    else (if nat_lt names_limit (length rows) then Err TooManyNames else Ok rows)

-- rows after an amount of a name was added
abbrev pub added : List ℕ → ℕ → List Row → Result (List Row) QuantityFault
added name n rows =
    if not (is_resource_name name) then Err BadName
    else (if n == 0 then Ok rows else within_limits (raised name n rows))

abbrev pub sum_of : List Row → List Row → Result (List Row) QuantityFault
sum_of rows others = within_limits (plus_rows rows others)

abbrev pub difference_of : List Row → List Row → Result (List Row) QuantityFault
difference_of total rows = if covers total rows then Ok (rest_of total rows) else Err NotCovered
