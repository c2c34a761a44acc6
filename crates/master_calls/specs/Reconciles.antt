-- What RECONCILE sends, task by task.
use Rattle.std.specs.Prelude.{if◌then◌else◌, List, [], ◌∷◌, fold, Option, Some, None, option_map}
use Rattle.std.specs.Ordering.{nat_cmp, ordering_then}
use Rattle.std.specs.declared.cmp.Ordering.{Ordering}
use Rattle.std.specs.BTreeMap.{insert_entry}
use Rattle.std.specs.Map.{values_of}
use Rattle.names_core.specs.Ids.{Numbered}
use Rattle.names_core.specs.declared.state.TaskState.TheVariants.{Lost}
use Rattle.messages.specs.declared.call.ReconciledTask.{ReconciledTask}
use Rattle.cluster_model.specs.Masters.{Placed, held}
use Rattle.cluster_model.specs.Calls.{is_awaited, is_live_of}
use Rattle.master_agents.specs.Looks.{all_placed}
use Rattle.master_state.specs.declared.state.State.{State}
use Rattle.master_state.specs.States.{task_state_sent}
use Rattle.master_state.specs.Works.{master_of}
use Rattle.master_calls.specs.Tasks.{HeldTask, held_task}

-- the state of a held task on a stream
abbrev pub sends_held : Numbered → State → HeldTask → State
sends_held stream s h = task_state_sent stream h.name h.state (Some h.agent) s

abbrev pub reconciled_as : Numbered → ReconciledTask → State → Option HeldTask → State
reconciled_as stream asked s (Some h) = sends_held stream s h
reconciled_as stream asked s None =
    if is_awaited (master_of s) asked.agent then s
    else task_state_sent stream asked.name Lost asked.agent s

abbrev pub reconciled_one : Numbered → Numbered → State → ReconciledTask → State
reconciled_one framework stream s asked =
    reconciled_as stream asked s (option_map held_task (held (master_of s) framework asked.name))

-- launch keys by run, then by number
abbrev pub key_cmp : Numbered → Numbered → Ordering
key_cmp a b = ordering_then (nat_cmp a.run b.run) (nat_cmp a.n b.n)

-- tasks by their keys, with one more if it is one of the framework's that hasn't ended
abbrev pub gathers : Numbered → List (Numbered × HeldTask) → Placed → List (Numbered × HeldTask)
gathers framework es p =
    if is_live_of framework p then insert_entry key_cmp es p.booked.job.key (held_task p) else es

-- the same with the task of one key more, where there is one
abbrev pub gathers_found : Numbered → List (Numbered × HeldTask) → Option Placed
    → List (Numbered × HeldTask)
gathers_found framework es None = es
gathers_found framework es (Some p) = gathers framework es p

-- the framework's live tasks by their keys
abbrev pub live_by_key : Numbered → List Placed → List (Numbered × HeldTask)
live_by_key framework ps = fold (gathers framework) [] ps

abbrev pub live_of : Numbered → State → List HeldTask
live_of framework s = values_of (live_by_key framework (all_placed s.sides))

-- the tasks asked for, or all
abbrev pub reconciled : Numbered → Numbered → List ReconciledTask → State → State
reconciled framework stream [] s = fold (sends_held stream) s (live_of framework s)
reconciled framework stream (asked ∷ more) s =
    fold (reconciled_one framework stream) s (asked ∷ more)
