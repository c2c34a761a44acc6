-- A record as compact JSON, members in byte order of their names.
use Rattle.std.specs.Prelude.{ℕ, List, [], ◌∷◌, map, codes}
use Rattle.serde_json.specs.Data.{Data, string, number, unsigned, array, object, Members, no_members, member, put}
use Rattle.serde_json.specs.View.{items_of}
use Rattle.serde_json.specs.Written.{compact_text}
use Rattle.names_core.specs.Ids.{id_text}
use Rattle.names_core.specs.States.{state_text}
use Rattle.quantity.specs.declared.rows.Row.{Row}
use Rattle.messages.specs.declared.task.Job.{Job}
use Rattle.messages.specs.declared.record.RecordParts.{RecordParts}
use Rattle.messages.specs.declared.record.RecordedTask.{RecordedTask}

-- a whole number
abbrev pub whole : ℕ → Data
whole n = number (unsigned n)

-- each amount under its resource's name
abbrev pub row_members : List Row → Members
row_members [] = no_members
row_members (r ∷ rows) = member r.name (whole r.amount) (row_members rows)

abbrev pub amounts : List Row → Data
amounts rows = object (row_members rows)

abbrev pub list_data : {A : Type 0} → (A → Data) → List A → Data
list_data f xs = array (items_of (map f xs))

unfoldable pub task_data : RecordedTask → Data
task_data t = object
    (member (codes "acked") (whole t.updates.acknowledged)
    (member (codes "framework") (string (id_text 70 t.job.framework))
    (member (codes "key") (string (id_text 76 t.job.key))
    (member (codes "name") (string t.job.name)
    (member (codes "offers") (list_data (λ offer. string (id_text 79 offer)) t.offers)
    (member (codes "resources") (amounts t.job.resources)
    (member (codes "updates") (list_data (λ state. string (state_text state)) t.updates.states)
    no_members)))))))

-- a record, and the version of its written form
unfoldable pub record_data : ℕ → RecordParts → Data
record_data version d = object
    (member (codes "name") (string d.name)
    (member (codes "run") (whole d.run)
    (member (codes "session") (whole d.session)
    (member (codes "tasks") (list_data task_data d.tasks)
    (member (codes "total") (amounts d.total)
    (member (codes "version") (whole version) no_members))))))

-- members with the framework, key, name and resources of a task
abbrev pub with_job : Job → Members → Members
with_job job ms =
    put (codes "resources") (amounts job.resources)
    (put (codes "name") (string job.name)
    (put (codes "key") (string (id_text 76 job.key))
    (put (codes "framework") (string (id_text 70 job.framework)) ms)))

-- members with the version
abbrev pub versioned : ℕ → Members → Data
versioned version ms = object (put (codes "version") (whole version) ms)

-- the written form of a record, version 2
abbrev pub record_form : RecordParts → List ℕ
record_form d = compact_text (record_data 2 d)

-- the written form that a record had before, version 1
abbrev pub first_form : RecordParts → List ℕ
first_form d = compact_text (record_data 1 d)

-- the written form of a task
abbrev pub task_form : RecordedTask → List ℕ
task_form t = compact_text (task_data t)

-- the written form of a total
abbrev pub total_form : List Row → List ℕ
total_form rows = compact_text (amounts rows)
