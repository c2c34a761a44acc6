-- Look-ups of the master's sides, and sides by their agents' names.
use Rattle.std.specs.Prelude.{ℕ, suc, ◌+◌, Bool, ◌&&◌, ◌==◌, if◌then◌else◌, List, [], ◌∷◌, length, map, filter, flat_map, Option, Some, None, bytes_eq}
use Rattle.names_core.specs.Ids.{Numbered, same}
use Rattle.messages.specs.declared.task.Offer.{Offer}
use Rattle.cluster_model.specs.Sides.{Side, withdrawn}
use Rattle.cluster_model.specs.Masters.{Placed, is_task_of, placed_on}

-- the first side of a name is changed
abbrev pub at_name : List ℕ → (Side → Side) → List Side → List Side
at_name name change [] = []
at_name name change (s ∷ ss) =
    if bytes_eq s.name name then change s ∷ ss else s ∷ at_name name change ss

-- what `field` returns for the first side of a name, or `none` where there is none
abbrev pub value_of : {X : Type 0} → List ℕ → (Side → X) → X → List Side → X
value_of name field none [] = none
value_of name field none (s ∷ ss) =
    if bytes_eq s.name name then field s else value_of name field none ss

-- the session and the number of the next command, where a session is open
abbrev pub next_command : Side → Option (ℕ × ℕ)
next_command s = if s.is_open then Some (s.session, suc (s.known + length s.waiting)) else None

-- the session is the open one
abbrev pub is_session : ℕ → Side → Bool
is_session session s = s.is_open && session == s.session

-- offers that pass a test are withdrawn by their ids
abbrev pub withdrawing : (Offer → Bool) → Side → Side
withdrawing test s = withdrawn s (map (λ o. o.id) (filter test s.offers))

-- the booked tasks of all agents
abbrev pub all_placed : List Side → List Placed
all_placed ss = flat_map placed_on ss

-- the update last received of a framework's task of this name and key on this agent
abbrev pub is_received_last : Numbered → List ℕ → List ℕ → Numbered → ℕ → Placed → Bool
is_received_last framework agent task key k p =
    same p.booked.job.key key && is_task_of framework task p && bytes_eq p.agent agent
    && p.booked.received == suc k
