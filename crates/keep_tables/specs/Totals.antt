-- An agent's total, of rows of agent_total.
use Rattle.std.specs.Prelude.{◌≡◌, ◌+◌, ℕ, Bool, true, nat_le, if◌then◌else◌, List, [], ◌∷◌, length, Option, Some, None}
use Rattle.std.specs.Str.{is_utf8}
use Rattle.std.specs.List.{AllByRecursion}
use Rattle.sqlite.specs.Order.{Row, column}
use Rattle.sqlite.specs.Tree.{Trees}
use Rattle.quantity.specs.declared.rows.Row.{Row as Amount}
use Rattle.quantity.specs.Names.{is_resource_name}
use Rattle.quantity.specs.Rows.{names_limit, plus_rows, row}
use Rattle.keep_tables.specs.Columns.{amount_at, text_at}
use Rattle.keep_tables.specs.Tables.{SparesOthers, amount_row}

abbrev pub amount_of : Option (List ℕ) → Option ℕ → Option Amount
amount_of (Some name) (Some n) = if is_resource_name name then Some (row name n) else None
amount_of _ _ = None

-- the amount in a row of name and amount, where the name is a resource's
unfoldable pub amount_in_row : Row → Option Amount
amount_in_row shown = amount_of (text_at (column shown 0)) (amount_at (column shown 1))

abbrev pub before_all : Option Amount → Option (List Amount) → Option (List Amount)
before_all (Some r) (Some rs) = Some (r ∷ rs)
before_all _ _ = None

-- the amounts in rows, where each has one
abbrev pub amounts_in_rows : List Row → Option (List Amount)
amounts_in_rows [] = Some []
amounts_in_rows (shown ∷ more) = before_all (amount_in_row shown) (amounts_in_rows more)

abbrev pub summed : Bool → Option (List Amount) → Option (List Amount)
summed true (Some rs) = Some (plus_rows [] rs)
summed _ _ = None

-- the total of rows, at most eight: the sum of their amounts, by name
abbrev pub total_in_rows : List Row → Option (List Amount)
total_in_rows rows = summed (nat_le (length rows) names_limit) (amounts_in_rows rows)

-- the rows of a total, with rowids from this one on
abbrev pub amount_rows : ℕ → List Amount → List Row
amount_rows from [] = []
amount_rows from (r ∷ rs) = amount_row from r.name r.amount ∷ amount_rows (from + 1) rs

-- the name of each amount is UTF-8
abbrev pub AreNamed : List Amount → Type 0
AreNamed = AllByRecursion (λ r. is_utf8 r.name ≡ true)

-- ---- for private clauses

-- no row of a total is left
pub record HasNoAmount (old new : Trees) : Type 0 where
  pub none : new 5 ≡ []
  pub others : SparesOthers 5 old new

-- rows of these amounts were inserted where there were none
pub record PutsAmounts (rs : List Amount) (old new : Trees) : Type 0 where
  pub rows : old 5 ≡ [] → new 5 ≡ amount_rows 1 rs
  pub others : SparesOthers 5 old new

-- the rows of a total are those of these amounts
pub record HasAmounts (rs : List Amount) (old new : Trees) : Type 0 where
  pub rows : new 5 ≡ amount_rows 1 rs
  pub others : SparesOthers 5 old new
