-- The members of a state, put one after another.
use Rattle.std.proofs.Common.{◌≡◌, ℕ, List, codes, refl, Option, None, Some}
use Rattle.serde_json.specs.Data.{Data, Members, no_members, put, object, string}
use Rattle.event_json.specs.Ids.{id_data}
use Rattle.event_json.specs.Statuses.{with_agent, with_uuid, status_object}

all_put : (agent : Option (List ℕ)) (state task : List ℕ) (uuid : Option (List ℕ))
    → object (with_uuid uuid (put (codes "task_id") (id_data task) (put (codes "state") (string state) (with_agent agent no_members)))) ≡ status_object agent state task uuid
all_put None state task None = refl
all_put None state task (Some uuid) = refl
all_put (Some agent) state task None = refl
all_put (Some agent) state task (Some uuid) = refl

-- the members of a state
pub status_put : (agent : Option (List ℕ)) (state task : List ℕ) (uuid : Option (List ℕ)) (m1 m2 m3 m4 : Members) (name id : Data)
    → m1 ≡ with_agent agent no_members
    → m2 ≡ put (codes "state") name m1 → name ≡ string state
    → m3 ≡ put (codes "task_id") id m2 → id ≡ id_data task
    → m4 ≡ with_uuid uuid m3
    → object m4 ≡ status_object agent state task uuid
status_put agent state task uuid m1 m2 m3 m4 name id e1 e2 h2 e3 h3 e4 = rw (e4, e3, e2, e1, h2, h3) (all_put agent state task uuid)
