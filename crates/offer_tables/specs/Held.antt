-- Looking for booked tasks by framework and name.
use Rattle.std.specs.Prelude.{◌≡◌, ℕ, Bool, false, List, Contains, map, flat_map, Option, None, Some}
use Rattle.std.specs.List.{find}
use Rattle.names_core.specs.Ids.{Numbered}
use Rattle.cluster_model.specs.Masters.{Placed, held_among}
use Rattle.offer_tables.specs.Accounts.{Account, has_key, is_of_framework}
use Rattle.offer_tables.specs.Found.{place}

-- all booked tasks of an account, with its agent
abbrev pub placed_on : Account → List Placed
placed_on a = map (place a.name) a.booked

abbrev pub all_placed : List Account → List Placed
all_placed as_ = flat_map placed_on as_

-- the booked task of a framework with this name, if any: first one that hasn't ended,
-- then the one with the least key
abbrev pub held : Numbered → List ℕ → List Account → Option Placed
held framework name as_ = held_among (all_placed as_) framework name

-- the booked task of this key, with its agent
abbrev pub placed_of : Numbered → List Placed → Option Placed
placed_of key ps = find (λ p. has_key key p.booked) ps

-- each task is the one of its key
abbrev pub AreKeyed : List Placed → Type 0
AreKeyed ps = (p : Placed) → Contains ps p → placed_of p.booked.job.key ps ≡ Some p

-- there is such a task, and it is the framework's
abbrev pub is_framework_of : Numbered → Option Placed → Bool
is_framework_of framework None = false
is_framework_of framework (Some p) = is_of_framework framework p.booked
