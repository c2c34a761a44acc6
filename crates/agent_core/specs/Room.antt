-- What is left of resources.
use Rattle.std.specs.Prelude.{ℕ, ◌+◌, ◌≤◌, List}
use Rattle.quantity.specs.declared.rows.Row.{Row}
use Rattle.quantity.specs.Rows.{amount}

-- the first have at most what the second leave of a total
abbrev pub Leaves : List Row → List Row → List Row → Type 0
Leaves rest taken total =
    (name : List ℕ) → amount name rest + amount name taken ≤ amount name total
