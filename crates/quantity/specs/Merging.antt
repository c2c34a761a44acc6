-- Merging two lists of rows in order.
use Rattle.std.specs.Prelude.{ℕ, ◌+◌, Bool, nat_eq, if◌then◌else◌, List, [], ◌∷◌, ◌++◌, take, drop}
use Rattle.std.specs.List.{prefix_len}
use Rattle.std.specs.Cmp.Lexicographic.{pointwise, slice_cmp}
use Rattle.std.specs.Ordering.{nat_cmp, is_lt}
use Rattle.quantity.specs.Rows.{Row, part_of, row}

-- the row's name is before this one
abbrev pub is_below : List ℕ → Row → Bool
is_below name r = is_lt (slice_cmp nat_cmp r.name name)

-- how many of the first rows have names before this one
abbrev pub count_below : List ℕ → List Row → ℕ
count_below name rows = prefix_len (is_below name) rows

-- the rows from this name on
abbrev pub rows_from : List ℕ → List Row → List Row
rows_from name rows = drop (count_below name rows) rows

-- what the first row has of a name
abbrev pub front_amount : List ℕ → List Row → ℕ
front_amount name [] = 0
front_amount name (r ∷ rows) = part_of name r

-- the rows without the first, where it has this name
abbrev pub rows_past : List ℕ → List Row → List Row
rows_past name [] = []
rows_past name (r ∷ rows) = if pointwise nat_eq r.name name then rows else r ∷ rows

-- what a sum has from the rows before another row,
-- and from that row with what the rows have of its name
abbrev pub sum_upto : List Row → Row → List Row
sum_upto rows o =
    take (count_below o.name rows) rows
    ++ row o.name (front_amount o.name (rows_from o.name rows) + o.amount) ∷ []
