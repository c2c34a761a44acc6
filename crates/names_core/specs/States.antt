-- The states of a task, as the Mesos scheduler HTTP API writes them.
use Rattle.std.specs.Prelude.{ℕ, List, Bool, true, false, codes, bytes_eq, Option, Some, None, if◌then◌else◌}
use Rattle.names_core.specs.declared.state.TaskState.{TaskState}
use Rattle.names_core.specs.declared.state.TaskState.TheVariants.{Staging, Running, Finished, Failed, Killed, Lost, Error}

unfoldable pub state_text : TaskState → List ℕ
state_text Staging = codes "TASK_STAGING"
state_text Running = codes "TASK_RUNNING"
state_text Finished = codes "TASK_FINISHED"
state_text Failed = codes "TASK_FAILED"
state_text Killed = codes "TASK_KILLED"
state_text Lost = codes "TASK_LOST"
state_text Error = codes "TASK_ERROR"

-- the state that a text is
unfoldable pub state_of : List ℕ → Option TaskState
state_of text =
    if bytes_eq text (codes "TASK_STAGING") then Some Staging
    else (if bytes_eq text (codes "TASK_RUNNING") then Some Running
    else (if bytes_eq text (codes "TASK_FINISHED") then Some Finished
    else (if bytes_eq text (codes "TASK_FAILED") then Some Failed
    else (if bytes_eq text (codes "TASK_KILLED") then Some Killed
    else (if bytes_eq text (codes "TASK_LOST") then Some Lost
    else (if bytes_eq text (codes "TASK_ERROR") then Some Error else None))))))

-- the task has ended for good
abbrev pub is_terminal : TaskState → Bool
is_terminal Staging = false
is_terminal Running = false
is_terminal Finished = true
is_terminal Failed = true
is_terminal Killed = true
is_terminal Lost = true
is_terminal Error = true
