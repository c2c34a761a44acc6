-- The text of the agents at the end of a history.
use Rattle.std.specs.Prelude.{ℕ, List, [], ◌++◌}
use Rattle.std.specs.List.{flat_map}
use Rattle.messages.specs.declared.record.RecordParts.{RecordParts}
use Rattle.messages.specs.declared.record.RecordedTask.{RecordedTask}
use Rattle.quantity.specs.declared.rows.Row.{Row}
use Rattle.quantity.specs.Rows.{plus_rows}
use Rattle.cluster_model.specs.Agents.{live_tasks, task_rows}
use Rattle.step_text.specs.Ends.{agent_text, entries_text}
use Rattle.replay_core.specs.Stories.{count, offered_now, records_now}
use Rattle.cluster_core.specs.Stories.{Story}

-- what live tasks hold
abbrev pub live : List RecordedTask → List Row
live tasks = plus_rows [] (task_rows (live_tasks tasks))

abbrev pub agent_lines : Story → RecordParts → List ℕ
agent_lines s d = agent_text d (offered_now s d.name) (live d.tasks)

abbrev pub table : Story → List ℕ
table s = flat_map (agent_lines s) (records_now s) ++ entries_text (count s)
