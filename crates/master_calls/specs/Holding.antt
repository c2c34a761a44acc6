-- The task that a framework holds under a name.
use Rattle.std.specs.Prelude.{ℕ, Bool, ◌&&◌, if◌then◌else◌, List, Option, bytes_eq}
use Rattle.names_core.specs.Ids.{Numbered, same}
use Rattle.messages.specs.declared.task.Booked.{Booked}
use Rattle.cluster_model.specs.Masters.{Placed, first_placed}
use Rattle.offer_tables.specs.Found.{place}

abbrev pub is_of_name : Numbered → List ℕ → Booked → Bool
is_of_name framework name b = same b.job.framework framework && bytes_eq b.job.name name

-- of the one that was found before, if any, and a task on an agent: first one that hasn't ended,
-- then the one with the least key
abbrev pub first_at : Numbered → List ℕ → List ℕ → Option Placed → Booked → Option Placed
first_at framework name agent best b =
    if is_of_name framework name b then first_placed best (place agent b) else best
