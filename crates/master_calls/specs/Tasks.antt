-- What is sent of a held task, and what KILL and ACKNOWLEDGE do with one.
use Rattle.std.specs.Prelude.{ℕ, Bool, ◌||◌, if◌then◌else◌, List, Option, Some, None}
use Rattle.names_core.specs.Ids.{Numbered}
use Rattle.names_core.specs.declared.state.TaskState.{TaskState}
use Rattle.names_core.specs.declared.state.TaskState.TheVariants.{Lost}
use Rattle.messages.specs.declared.refusal.MasterRefusal.{MasterRefusal}
use Rattle.messages.specs.declared.refusal.MasterRefusal.TheVariants.{LimitExceeded}
use Rattle.cluster_model.specs.Sides.{SendAck, SendKill}
use Rattle.cluster_model.specs.Events.{StreamEvent, update_event}
use Rattle.cluster_model.specs.Masters.{AtSide, MasterEffect, Master, Placed, may_have_numbers, nothing, on_stream, saying, side_of}
use Rattle.cluster_model.specs.Calls.{commanding}
pub use Rattle.master_calls.specs.declared.on_kill.HeldTask.{HeldTask}

abbrev pub held_task : Placed → HeldTask
held_task p =
    record {
      name = p.booked.job.name;
      agent = p.agent;
      key = p.booked.job.key;
      ended = p.booked.ended;
      state = p.booked.state;
    }

-- the state of a task on a stream, without an id that has to be acknowledged
abbrev pub sends_task : Numbered → List ℕ → TaskState → Option (List ℕ) → List StreamEvent
sends_task stream task state agent = on_stream (Some stream) (update_event task state agent None)

-- KILL of a held task, or of none, by a framework on its stream
abbrev pub kills : Master → Numbered → List ℕ → Option (List ℕ) → Option HeldTask → MasterEffect
kills m stream task agent None = saying m (sends_task stream task Lost agent)
kills m stream task agent (Some held) =
    if held.ended then saying m (sends_task stream held.name held.state (Some held.agent))
    else commanding m (side_of m held.agent) (AtSide held.agent (SendKill held.key))

-- why a limit refuses a KILL of a held task, if one does: it hasn't ended, and the session of its
-- agent has no command number left
abbrev pub kill_limit : Master → Option Placed → Option MasterRefusal
kill_limit m None = None
kill_limit m (Some p) =
    if p.booked.ended || may_have_numbers 1 (side_of m p.agent) then None else Some LimitExceeded

-- ACKNOWLEDGE of an update that is the one last received, or isn't
abbrev pub acks : Master → List ℕ → Numbered → ℕ → Bool → MasterEffect
acks m agent key k is_last =
    if is_last then commanding m (side_of m agent) (AtSide agent (SendAck key k)) else nothing m
