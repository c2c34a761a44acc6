-- The updates of a launch key over a whole history.
use Rattle.std.specs.Prelude.{◌≡◌, ℕ, ◌≤◌, nat_lt, if◌then◌else◌, List, [], ◌∷◌, length, flat_map, slice_get, bytes_eq, Option, Some, None, IfSome, ⊤}
use Rattle.std.specs.List.{AllByRecursion as Each}
use Rattle.names_core.specs.Ids.{Numbered, same}
use Rattle.names_core.specs.declared.state.TaskState.{TaskState}
use Rattle.names_core.specs.Updates as updates
use Rattle.messages.specs.declared.record.RecordParts.{RecordParts}
use Rattle.messages.specs.declared.record.RecordedTask.{RecordedTask}
use Rattle.cluster_model.specs.Channels.{Channel, World, Happening, after, open_world}
use Rattle.cluster_model.specs.Events.{Event, StreamEvent, Update}
use Rattle.cluster_model.specs.Clusters.{Entry}
use Rattle.cluster_model.specs.Steps.{History, Setup, Marked, history}
use Rattle.cluster_safe.specs.Acknowledged.{recorded_tasks}

abbrev pub longer : List TaskState → List TaskState → List TaskState
longer xs ys = if nat_lt (length xs) (length ys) then ys else xs

-- the longest states of the tasks of a key
abbrev pub states_under : Numbered → List RecordedTask → List TaskState
states_under key [] = []
states_under key (t ∷ ts) =
    if same t.job.key key then longer t.updates.states (states_under key ts)
    else states_under key ts

-- the states in the agents' records for a key
abbrev pub recorded_states : Numbered → World → List TaskState
recorded_states key w =
    states_under key (flat_map (λ (c : Channel). c.agent.durable.tasks) w.channels)

-- the longest that were there while this happened, or before
abbrev pub updates_over : Numbered → List Happening → World → List TaskState → List TaskState
updates_over key [] w before = before
updates_over key (h ∷ hs) w before =
    updates_over key hs (after w h) (longer before (recorded_states key (after w h)))

-- the updates of a key from a world on: states are only added while a task is in its record, so the
-- longest that were ever there are all of them
abbrev pub updates_of : Numbered → List Happening → World → List TaskState
updates_of key hs start = updates_over key hs start (recorded_states key start)

-- the updates of a key over a list of steps, from an opening
abbrev pub updates_after : Numbered → Setup → List RecordParts → List Marked → List TaskState
updates_after key setup records steps =
    updates_of key (history setup records steps).happenings (open_world setup.run records)

-- the states in the record of one agent for a key
abbrev pub states_on : List ℕ → Numbered → List Channel → List TaskState
states_on agent key [] = []
states_on agent key (c ∷ cs) =
    if bytes_eq c.side.name agent then states_under key c.agent.durable.tasks
    else states_on agent key cs

abbrev pub sent_over : List ℕ → Numbered → List Happening → World → List TaskState → List TaskState
sent_over agent key [] w before = before
sent_over agent key (h ∷ hs) w before =
    sent_over agent key hs (after w h) (longer before (states_on agent key (after w h).channels))

-- the updates of a key in one agent's record from a world on
abbrev pub updates_on : List ℕ → Numbered → List Happening → World → List TaskState
updates_on agent key hs start = sent_over agent key hs start (states_on agent key start.channels)

-- each task of a record has all updates that were ever recorded for its key
abbrev pub HaveAllUpdates : List Happening → World → World → Type 0
HaveAllUpdates hs start w =
    Each (λ (c : Channel). Each (λ (t : RecordedTask). t.updates.states
    ≡ updates_of t.job.key hs start) c.agent.durable.tasks) w.channels

-- an update that is sent has the state of its number among the updates of its key, and these were
-- in its agent's record
abbrev pub IsUpdateOf : List Happening → World → Option (List ℕ) → updates.Update → TaskState → Type 0
IsUpdateOf hs start None uuid state = ⊥
IsUpdateOf hs start (Some agent) uuid state =
    (slice_get (updates_of uuid.key hs start) uuid.k ≡ Some state)
    × (slice_get (updates_on agent uuid.key hs start) uuid.k ≡ Some state)

abbrev pub HasUpdateOf : List Happening → World → Event → Type 0
HasUpdateOf hs start (Update status) =
    IfSome status.update (λ uuid. IsUpdateOf hs start status.agent uuid status.state)
HasUpdateOf hs start event = ⊤

-- so has each update that is sent, or returned by a Take
abbrev pub SendsUpdates : World → History → Type 0
SendsUpdates start h =
    Each (λ (t : StreamEvent). HasUpdateOf h.happenings start t.event) h.opened.events
    × Each (λ (e : Entry). Each (λ (t : StreamEvent). HasUpdateOf h.happenings start t.event)
    e.outputs.events) h.entries

abbrev pub HandsUpdates : World → History → Type 0
HandsUpdates start h =
    Each (λ (e : Entry). IfSome e.outputs.taken (λ t. HasUpdateOf h.happenings start t.event))
    h.entries

-- the records of an opening acknowledge no more updates than there are,
-- as every value of `Updates` does
abbrev pub AcknowledgeTheirs : List RecordParts → Type 0
AcknowledgeTheirs records =
    Each (λ t. t.updates.acknowledged ≤ length t.updates.states) (recorded_tasks records)
