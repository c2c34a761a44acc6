-- Tasks that an agent reports.
use Rattle.std.specs.Prelude.{◌≡◌, ℕ, true, false, List, [], map}
use Rattle.std.specs.List.{AllByRecursion, IsDistinct}
use Rattle.quantity.specs.declared.rows.Row.{Row}
use Rattle.quantity.specs.Rows.{covers}
use Rattle.messages.specs.declared.task.Booked.{Booked}
use Rattle.cluster_model.specs.Sides.{job_rows, unended}
use Rattle.offer_book.specs.Lists.{same_id}
use Rattle.offer_tables.specs.Accounts.{Account, is_agent, reopened}
use Rattle.offer_tables.specs.Books.{at_first, is_booked}

-- these tasks can be booked on an agent in place of what it has: no two have one key, none is
-- booked on another agent, and those that haven't ended fit the total
pub record AreBookableOn (name : List ℕ) (tasks : List Booked) (total : List Row)
    (as_ : List Account) : Type 0 where
  pub distinct : IsDistinct same_id (map (λ b. b.job.key) tasks)
  pub apart : AllByRecursion
      (λ b. is_booked b.job.key (at_first (is_agent name) (reopened [] total) as_) ≡ false) tasks
  pub fits : covers total (job_rows (unended tasks)) ≡ true
