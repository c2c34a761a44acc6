-- Which records an agent can have.
use Rattle.std.specs.Prelude.{Bool, true, not, ◌&&◌, ◌||◌, ◌==◌, if◌then◌else◌, List, [], ◌∷◌, length, Option, Some, None}
use Rattle.std.specs.List.{list_all}
use Rattle.names_core.specs.Ids.{Numbered, before}
use Rattle.quantity.specs.declared.rows.Row.{Row}
use Rattle.quantity.specs.Rows.{covers}
use Rattle.stream_core.specs.Updates.{is_done}
use Rattle.messages.specs.declared.record.RecordParts.{RecordParts}
use Rattle.messages.specs.declared.record.RecordedTask.{RecordedTask}
use Rattle.cluster_model.specs.Agents.{live_tasks, task_rows}
use Rattle.agent_core.specs.Room.{Leaves}

-- each launch key is after the one before it
abbrev pub is_behind : Option Numbered → Numbered → Bool
is_behind None key = true
is_behind (Some last) key = before last key

abbrev pub rise_behind : Option Numbered → List RecordedTask → Bool
rise_behind last [] = true
rise_behind last (t ∷ ts) = is_behind last t.job.key && rise_behind (Some t.job.key) ts

abbrev pub keys_rise : List RecordedTask → Bool
keys_rise tasks = rise_behind None tasks

-- no task is done
abbrev pub none_is_done : List RecordedTask → Bool
none_is_done ts = list_all (λ t. not (is_done t.updates)) ts

-- run 0 is only before the first session, with no tasks
abbrev pub has_begun : RecordParts → Bool
has_begun d = not (d.run == 0) || (d.session == 0 && length d.tasks == 0)

-- the live tasks have together at most what the agent owns
abbrev pub is_record : RecordParts → Bool
is_record d =
    keys_rise d.tasks && none_is_done d.tasks && has_begun d
    && covers d.total (task_rows (live_tasks d.tasks))

-- the live tasks leave these resources of what the agent owns, or more
abbrev pub HasRoom : List Row → RecordParts → Type 0
HasRoom room d = Leaves room (task_rows (live_tasks d.tasks)) d.total

-- the record, if it can be one
abbrev pub rebuilt : RecordParts → Option RecordParts
rebuilt d = if is_record d then Some d else None

-- the record with other tasks
abbrev pub with_other_tasks : RecordParts → List RecordedTask → RecordParts
with_other_tasks d ts =
    record { name = d.name; total = d.total; session = d.session; run = d.run; tasks = ts }
