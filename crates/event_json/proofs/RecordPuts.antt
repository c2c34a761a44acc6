-- Members put into an empty object, one after another.
use Rattle.std.proofs.Common.{◌≡◌, ℕ, codes, refl}
use Rattle.serde_json.specs.Data.{Data, Members, no_members, put, object, string}
use Rattle.names_core.specs.Ids.{id_text}
use Rattle.names_core.specs.States.{state_text}
use Rattle.messages.specs.declared.record.RecordParts.{RecordParts}
use Rattle.messages.specs.declared.record.RecordedTask.{RecordedTask}
use Rattle.event_json.specs.Texts.{whole, amounts, list_data, task_data, versioned, with_job, record_data}

-- the members of a task
pub task_put : (t : RecordedTask) (m0 m1 m2 m3 m4 : Members) (acked offers updates : Data)
    → m0 ≡ no_members
    → m1 ≡ with_job t.job m0
    → m2 ≡ put (codes "acked") acked m1 → acked ≡ whole t.updates.acknowledged
    → m3 ≡ put (codes "offers") offers m2 → offers ≡ list_data (λ offer. string (id_text 79 offer)) t.offers
    → m4 ≡ put (codes "updates") updates m3 → updates ≡ list_data (λ state. string (state_text state)) t.updates.states
    → object m4 ≡ task_data t
unfolding task_data
task_put t m0 m1 m2 m3 m4 acked offers updates e0 e1 e2 h2 e3 h3 e4 h4 = rw (e4, e3, e2, e1, e0, h2, h3, h4) refl

-- the members of a record, and its version behind them
pub record_put : (version : ℕ) (d : RecordParts) (m0 m1 m2 m3 m4 m5 : Members) (name run session tasks total : Data)
    → m0 ≡ no_members
    → m1 ≡ put (codes "name") name m0 → name ≡ string d.name
    → m2 ≡ put (codes "run") run m1 → run ≡ whole d.run
    → m3 ≡ put (codes "session") session m2 → session ≡ whole d.session
    → m4 ≡ put (codes "tasks") tasks m3 → tasks ≡ list_data task_data d.tasks
    → m5 ≡ put (codes "total") total m4 → total ≡ amounts d.total
    → versioned version m5 ≡ record_data version d
unfolding record_data
record_put version d m0 m1 m2 m3 m4 m5 name run session tasks total e0 e1 h1 e2 h2 e3 h3 e4 h4 e5 h5 =
    rw (e5, e4, e3, e2, e1, e0, h1, h2, h3, h4, h5) refl
