-- Where the search for a framework that may be offered what is free on an agent begins.
use Rattle.std.specs.Prelude.{◌≡◌, ◌<◌, ℕ, false, if◌then◌else◌, nat_lt, bytes_eq, List, take, map, Option, option_map, IfSome}
use Rattle.std.specs.List.{AllByRecursion}
use Rattle.quantity.specs.declared.rows.Row.{Row}
use Rattle.messages.specs.declared.framework.Framework.{Framework}
use Rattle.cluster_model.specs.Rounds.{may_be_offered}
pub use Rattle.master_state.specs.declared.registry.starts.Start.{Start}

-- what is free on an agent may be offered to none of these frameworks at this moment
abbrev pub NoneEligible : ℕ → List ℕ → List Row → List Framework → Type 0
NoneEligible now agent free fs = AllByRecursion (λ f. may_be_offered now agent free f ≡ false) fs

-- before its moment none of the first frameworks is eligible
abbrev pub IsStart : List Framework → Start → Type 0
IsStart fs s = (now : ℕ) → now < s.until → NoneEligible now s.agent s.free (take s.count fs)

abbrev pub AreStarts : List Framework → List (Option Start) → Type 0
AreStarts fs ss = AllByRecursion (λ o. IfSome o (IsStart fs)) ss

-- it is of so many frameworks at most
abbrev pub cut_to : ℕ → Start → Start
cut_to place s = if nat_lt place s.count then record s { count = place } else s

-- the same on one agent
abbrev pub cut_on : List ℕ → ℕ → Start → Start
cut_on agent place s = if bytes_eq s.agent agent then cut_to place s else s

abbrev pub all_cut : ℕ → List (Option Start) → List (Option Start)
all_cut place ss = map (option_map (cut_to place)) ss

abbrev pub all_cut_on : List ℕ → ℕ → List (Option Start) → List (Option Start)
all_cut_on agent place ss = map (option_map (cut_on agent place)) ss
