-- The lines at the end of a replay. Each ends with a line feed.
use Rattle.std.specs.Prelude.{ℕ, List, [], ◌∷◌, ◌++◌, ◌-◌, length, slice_index_or, codes, decimal}
use Rattle.std.specs.List.{flat_map}
use Rattle.names_core.specs.Ids.{id_text}
use Rattle.names_core.specs.States.{state_text}
use Rattle.names_core.specs.declared.state.TaskState.{TaskState}
use Rattle.names_core.specs.declared.state.TaskState.TheVariants.{Staging}
use Rattle.quantity.specs.declared.rows.Row.{Row}
use Rattle.stream_core.specs.Updates.{Updates}
use Rattle.messages.specs.declared.task.Job.{Job}
use Rattle.messages.specs.declared.record.RecordedTask.{RecordedTask}
use Rattle.messages.specs.declared.record.RecordParts.{RecordParts}

-- amounts, each after a space

unfoldable pub amount_text : Row → List ℕ
amount_text row = 32 ∷ (row.name ++ (58 ∷ decimal row.amount))

abbrev pub amounts_text : List Row → List ℕ
amounts_text [] = codes " -"
amounts_text (r ∷ rs) = flat_map amount_text (r ∷ rs)

-- the state of the last update, TASK_STAGING before the first
abbrev pub last_state : List TaskState → TaskState
last_state states = slice_index_or states (length states - 1) Staging

unfoldable pub task_front : Job → List ℕ
task_front job =
    codes "task "
    ++ (id_text 76 job.key ++ (32 ∷ (id_text 70 job.framework ++ (32 ∷ (job.name ++ 32 ∷ [])))))

unfoldable pub updates_text : Updates → List ℕ
updates_text u =
    state_text (last_state u.states)
    ++ (codes " acked " ++ (decimal u.acknowledged
    ++ (codes " of " ++ (decimal (length u.states) ++ 10 ∷ []))))

abbrev pub task_line : RecordedTask → List ℕ
task_line t = task_front t.job ++ updates_text t.updates

unfoldable pub agent_front : List ℕ → List ℕ
agent_front name = codes "agent " ++ (name ++ codes " owns")

-- what an agent owns, what of it is offered and what its live tasks hold,
-- and the tasks of its record
abbrev pub agent_text : RecordParts → List Row → List Row → List ℕ
agent_text kept offered live =
    agent_front kept.name ++ amounts_text kept.total ++ codes " offered" ++ amounts_text offered
    ++ codes " live" ++ amounts_text live ++ codes "\n"
    ++ flat_map task_line kept.tasks

-- how many entries a history has
unfoldable pub entries_text : ℕ → List ℕ
entries_text count = codes "entries " ++ (decimal count ++ 10 ∷ [])
