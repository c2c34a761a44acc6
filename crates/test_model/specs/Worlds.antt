-- The records and worlds in which the samples begin.
use Rattle.std.specs.Prelude.{List, [], ◌∷◌, ◌++◌}
use Rattle.names_core.specs.declared.state.TaskState.TheVariants.{Running, Finished}
use Rattle.messages.specs.declared.record.RecordParts.{RecordParts}
use Rattle.cluster_model.specs.Sides.{LaunchFrom}
use Rattle.cluster_model.specs.Channels.{World, At, Receive, ByMaster, after_all, open_world}
use Rattle.test_model.specs.Short.{id, task, durable}
use Rattle.test_model.specs.Agents.{n_a1, cpus, job_of_two, reporting, applying, offering}

-- a task that hasn't ended, in the record of an agent to which the master of run 2 comes
abbrev pub with_task : List RecordParts
with_task = durable n_a1 (cpus 4) 0 1 (task (job_of_two (id 1 1)) (id 1 1 ∷ []) [] 0 ∷ []) ∷ []

abbrev pub running : World
running = after_all reporting (open_world 2 with_task)

-- a task that has ended, and one of a later launch with the same name that hasn't
abbrev pub with_two_launches : List RecordParts
with_two_launches =
    durable n_a1 (cpus 4) 0 1 (task (job_of_two (id 1 1)) (id 1 1 ∷ []) (Finished ∷ []) 0
    ∷ task (job_of_two (id 1 2)) (id 1 2 ∷ []) [] 0 ∷ []) ∷ []

abbrev pub launched_twice : World
launched_twice = after_all reporting (open_world 2 with_two_launches)

-- an agent that never ran, of which all is offered
abbrev pub no_task : List RecordParts
no_task = durable n_a1 (cpus 4) 0 0 [] ∷ []

abbrev pub offered : World
offered = after_all (reporting ++ offering (id 1 1) (id 1 1) ∷ []) (open_world 1 no_task)

-- a task was launched out of that, and is in the agent's record,
-- in the session that the first Report opened
abbrev pub launched : World
launched =
    after_all (At n_a1 (ByMaster (LaunchFrom (id 1 1) (id 1 1 ∷ []) (job_of_two (id 1 1) ∷ [])))
    ∷ applying 1) offered

-- a task of two updates, none of them acknowledged, of which the master has received the first
abbrev pub with_updates : List RecordParts
with_updates =
    durable n_a1 (cpus 4) 0 1 (task (job_of_two (id 1 1)) (id 1 1 ∷ []) (Running ∷ Finished ∷ []) 0
    ∷ []) ∷ []

abbrev pub updated : World
updated = after_all (reporting ++ At n_a1 (Receive 1) ∷ []) (open_world 2 with_updates)
