-- What is proved of rows: the laws that the layers above cite.
use Rattle.std.specs.Prelude.{◌≡◌, ℕ, ◌+◌, ◌-◌, ◌≤◌, ◌↔◌, IsTrue, List, ◌++◌}
use Rattle.quantity.specs.Rows.{Row, amount, covers, AreRows, plus_rows, rest_of}

-- the first rows have at least as much of every name as the second
abbrev pub AtLeast : List Row → List Row → Type 0
AtLeast total rows = (name : List ℕ) → amount name rows ≤ amount name total

abbrev pub SameAmounts : List Row → List Row → Type 0
SameAmounts rows others = (name : List ℕ) → amount name rows ≡ amount name others

-- amounts add up over joined rows
abbrev pub AmountsAddUp : Type 0
AmountsAddUp =
    (name : List ℕ) (rows others : List Row)
    → amount name (rows ++ others) ≡ amount name rows + amount name others

-- the test by rows is "at most, for every name"; the rows may be in any order,
-- and a name may have many
abbrev pub CoversIsAtLeast : Type 0
CoversIsAtLeast = (total rows : List Row) → IsTrue (covers total rows) ↔ AtLeast total rows

-- rows in order are determined by their amounts
abbrev pub AmountsDetermineRows : Type 0
AmountsDetermineRows =
    (rows others : List Row) → AreRows rows → AreRows others → SameAmounts rows others
    → rows ≡ others

-- the rows of a sum have the sum of each name's amounts
abbrev pub SumsAddUp : Type 0
SumsAddUp =
    (rows others : List Row) (name : List ℕ)
    → amount name (plus_rows rows others) ≡ amount name rows + amount name others

-- what is left of a name is its amount less what is taken, 0 where as much or more is taken
abbrev pub RestsAreLess : Type 0
RestsAreLess =
    (total taken : List Row) → AreRows total → (name : List ℕ)
    → amount name (rest_of total taken) ≡ amount name total - amount name taken

-- what is left of rows in order are rows in order
abbrev pub RestsAreRows : Type 0
RestsAreRows = (total taken : List Row) → AreRows total → AreRows (rest_of total taken)

-- taking one after the other is taking both
abbrev pub RestsJoin : Type 0
RestsJoin =
    (total first second : List Row) → rest_of (rest_of total first) second
    ≡ rest_of total (first ++ second)
