-- Lists in a call.
use Rattle.std.specs.Prelude.{ℕ, List, [], ◌∷◌, Option, Result, Ok, Err, option_map, option_and_then, length, nat_lt, if◌then◌else◌}
use Rattle.serde_json.specs.Data.{Data, Items, no_items, item}
use Rattle.serde_json.specs.Find.{as_array}
use Rattle.call_json.specs.Answers.{◌>>=◌}
use Rattle.call_json.specs.MemberLookups.{required}
use Rattle.call_json.specs.declared.members.fault.Member.{Member}
use Rattle.call_json.specs.declared.members.fault.Refusal.{Refusal}
use Rattle.call_json.specs.declared.members.fault.Refusal.TheVariants.{LimitExceeded}

abbrev pub values_of : Items → List Data
values_of no_items = []
values_of (item d ds) = d ∷ values_of ds

-- the elements of a value that is a list
abbrev pub list_of : Option Data → Option (List Data)
list_of o = option_map values_of (option_and_then as_array o)

-- a list of at most so many elements
abbrev pub at_most : ℕ → List Data → Result (List Data) Refusal
at_most limit ds = if nat_lt limit (length ds) then Err LimitExceeded else Ok ds

unfoldable pub short_list_of : Member → ℕ → Option Data → Result (List Data) Refusal
short_list_of member limit o = required member (list_of o) >>= at_most limit

-- one element after another, each joined to the result of those before it
abbrev pub each_in : {S : Type 0} → (S → Data → Result S Refusal) → S → List Data → Result S Refusal
each_in step s [] = Ok s
each_in step s (d ∷ ds) = step s d >>= λ t. each_in step t ds
