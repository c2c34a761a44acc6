-- Ids and launch keys: those that follow, lists of them; and the last numbers.
use Rattle.std.specs.Prelude.{ℕ, suc, Bool, true, false, not, ◌&&◌, ◌||◌, ◌==◌, nat_lt, List, [], ◌∷◌, filter}
use Rattle.std.specs.List.{list_any}
use Rattle.names_core.specs.Ids.{Numbered, same}
pub use Rattle.names_core.specs.Names.{bytes_before}

-- the first number of a run
abbrev pub first_of_run : ℕ → Numbered
first_of_run run = record { run = run; n = 1 }

-- the next number of the same run
abbrev pub following : Numbered → Numbered
following a = record { run = a.run; n = suc a.n }

abbrev pub is_among : List Numbered → Numbered → Bool
is_among ids id = list_any (λ other. same other id) ids

-- the ids, each once, at its first place
abbrev pub each_once : List Numbered → List Numbered
each_once [] = []
each_once (id ∷ ids) = id ∷ filter (λ other. not (same id other)) (each_once ids)

-- some id is listed twice
abbrev pub is_repeated : List Numbered → Bool
is_repeated [] = false
is_repeated (id ∷ ids) = is_among ids id || is_repeated ids

abbrev pub is_empty : {A : Type 0} → List A → Bool
is_empty [] = true
is_empty (x ∷ xs) = false

-- the last value of sessions, command numbers, ids, moments and counts of entries
abbrev pub last_number : ℕ
last_number = 4294967295

abbrev pub last_run : ℕ
last_run = 65535
