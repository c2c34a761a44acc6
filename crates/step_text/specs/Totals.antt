-- What an agent owns.
use Rattle.std.specs.Prelude.{ℕ, ◌==◌, not, List, [], Option, Some}
use Rattle.std.specs.Result.{result_ok}
use Rattle.serde_json.specs.Data.{Data, Members, no_members, member}
use Rattle.serde_json.specs.Find.{as_number, as_u64, as_object}
use Rattle.quantity.specs.declared.rows.Row.{Row}
use Rattle.quantity.specs.Rows.{added}
use Rattle.step_text.specs.Answers.{◌>>=◌}
use Rattle.step_text.specs.Members.{where_true}

-- an amount of a name more; none is 0
abbrev pub more_of : List ℕ → Data → List Row → Option (List Row)
more_of name d rows =
    as_number d >>= as_u64 >>= λ n. where_true (not (n == 0)) n >>= λ some.
    result_ok (added name some rows)

abbrev pub rows_in : List Row → Members → Option (List Row)
rows_in rows no_members = Some rows
rows_in rows (member name d ms) = more_of name d rows >>= λ more. rows_in more ms

abbrev pub total_of : Data → Option (List Row)
total_of d = as_object d >>= rows_in []
