-- Events that are sent to frameworks, where the master knows these.
use Rattle.std.specs.Prelude.{ℕ, suc, ◌&&◌, nat_le, if◌then◌else◌, List, [], Some, None}
use Rattle.names_core.specs.Ids.{Numbered, same}
use Rattle.names_core.specs.declared.state.TaskState.TheVariants.{Lost}
use Rattle.messages.specs.declared.framework.Framework.{Framework}
use Rattle.messages.specs.declared.task.Booked.{Booked}
use Rattle.messages.specs.declared.task.Offer.{Offer}
use Rattle.offer_book.specs.declared.tasks.TaskUpdate.{TaskUpdate}
use Rattle.cluster_model.specs.Events.{Event, StreamEvent, Rescind, update_event}
use Rattle.cluster_model.specs.Mails.{is_reported}
use Rattle.cluster_model.specs.Masters.{on_stream, stream_of}
use Rattle.master_state.specs.Frameworks.{with_id}

-- an event to one of these frameworks, where it has an open stream
abbrev pub events_in : List Framework → Numbered → Event → List StreamEvent
events_in fs framework event = on_stream (stream_of (with_id framework fs)) event

abbrev pub rescind_of : List Framework → Offer → List StreamEvent
rescind_of fs o = events_in fs o.framework (Rescind o.id)

abbrev pub lost_event : List ℕ → Booked → Event
lost_event agent b = update_event b.job.name Lost (Some agent) None

-- TASK_LOST of a booked task that hasn't ended and isn't reported
abbrev pub loss_of : List Framework → List ℕ → List Booked → Booked → List StreamEvent
loss_of fs agent reported b =
    if b.ended then [] else (if is_reported reported b then []
    else events_in fs b.job.framework (lost_event agent b))

abbrev pub updated_event : List ℕ → TaskUpdate → Booked → Event
updated_event agent u b =
    update_event b.job.name u.state (Some agent) (Some (record { key = u.key; k = u.k }))

-- an update of a booked task that isn't older than the last one received
abbrev pub news : List Framework → List ℕ → TaskUpdate → Booked → List StreamEvent
news fs agent u b =
    if same b.job.key u.key && nat_le b.received (suc u.k)
    then events_in fs b.job.framework (updated_event agent u b) else []
