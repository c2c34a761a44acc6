-- What one row tells.
use Rattle.std.proofs.Common.{◌≡◌, ℕ, List, true, Some, refl, arith}
use Rattle.std.proofs.lemmas.Bool.Decides.{nat_tests}
use Rattle.std.specs.Str.{IsUtf8}
use Rattle.sqlite.specs.declared.types.Value.TheVariants.{Text}
use Rattle.sqlite.specs.Order.{Row, column}
use Rattle.names_core.specs.Ids.{same}
use Rattle.messages.specs.declared.record.RecordedTask.{RecordedTask}
use Rattle.event_json.specs.Texts.{task_form}
use Rattle.event_json.specs.Written.{IsTask}
use Rattle.event_json.specs.Reading.{task_in}
use Rattle.event_json.proofs.Again.{task_form_again}
use Rattle.keep_tables.specs.Tables.{task_row}
use Rattle.keep_tables.specs.Columns.{number_at, text_at}
use Rattle.keep_tables.proofs.ColumnLemmas.{number_some, text_some}
use Rattle.keep_store.specs.SavesKept.{read_back}

pub told_from : (row : Row) (run n : ℕ) (body : List ℕ) (t : RecordedTask) → number_at (column row 1) ≡ Some run → number_at (column row 2) ≡ Some n → text_at (column row 3) ≡ Some body → task_in body ≡ Some t
    → t.job.key.run ≡ run → t.job.key.n ≡ n → read_back row ≡ Some t
unfolding read_back
told_from row run n body t is_run is_n is_body is_task same_run same_n =
    let test : same t.job.key (record { run = run; n = n }) ≡ true = rw (same_run, same_n) (both run n) in
    rw (is_run, is_n, is_body, is_task, test) refl
  where
    both : (run n : ℕ) → same (record { run = run; n = n }) (record { run = run; n = n }) ≡ true
    both run n = grind (arith, nat_tests)

-- the row of a task tells that task
pub row_told : (t : RecordedTask) → IsTask t → ∥ IsUtf8 (task_form t) ∥₁ → read_back (task_row t.job.key (task_form t)) ≡ Some t
row_told t is utf8 =
    let key = t.job.key in
    told_from (task_row key (task_form t)) key.run key.n (task_form t) t (number_some key.run (omega (arith, is.key.run_fits))) (number_some key.n is.key.n_fits)
    (text_some (Text (task_form t)) (task_form t) refl utf8) (task_form_again t is) refl refl
