-- What agents own that have an open session.
use Rattle.std.specs.Prelude.{◌≡◌, ◌⊎◌, ⊤, ℕ, if◌then◌else◌, List, [], ◌∷◌, map, set, get_or, Option, Some, None}
use Rattle.quantity.specs.declared.rows.Row.{Row}
use Rattle.cluster_model.specs.Sides.{Side}
use Rattle.drf_pick.specs.Shown.{all_owned}

-- what an agent owns, where it has an open session
abbrev pub owned_of : Side → Option (List Row)
owned_of s = if s.is_open then Some s.total else None

-- the same of each agent
abbrev pub each_owned : List Side → List (Option (List Row))
each_owned ss = map owned_of ss

-- what agents with an open session own together
abbrev pub totals_in : List Side → List Row
totals_in ss = all_owned (each_owned ss)

-- an agent has entered with what it owns, or hasn't entered
abbrev pub IsUpToDate : Side → Option (List Row) → Type 0
IsUpToDate s o = (o ≡ None) ⊎ (o ≡ owned_of s)

-- the same of each agent
abbrev pub AreUpToDate : List Side → List (Option (List Row)) → Type 0
AreUpToDate [] [] = ⊤
AreUpToDate [] (o ∷ os) = ⊥
AreUpToDate (s ∷ ss) [] = ⊥
AreUpToDate (s ∷ ss) (o ∷ os) = IsUpToDate s o × AreUpToDate ss os

-- of the agent at a place
abbrev pub IsUpToDateAt : ℕ → Side → List (Option (List Row)) → Type 0
IsUpToDateAt place s os = (o : Option (List Row)) → o ≡ get_or os place o → IsUpToDate s o

-- the agent at a place left, if what it owns has changed
abbrev pub LeavesAt : ℕ → Side → List (Option (List Row)) → List (Option (List Row)) → Type 0
LeavesAt place s os ps = (o : Option (List Row)) × (ps ≡ set os place o) × IsUpToDate s o
