-- Members of a JSON value.
use Rattle.std.specs.Prelude.{ℕ, List, codes, Option, None, Some, Result, Ok, Err, option_map, option_and_then}
use Rattle.std.specs.Borrow.{Bor}
use Rattle.serde_json.specs.Data.{Data}
use Rattle.serde_json.specs.Find.{get, as_str}
use Rattle.serde_json.specs.View.{view}
use Rattle.serde_json.specs.declared.value.Value.{Value}
use Rattle.call_json.specs.declared.members.fault.Member.{Member}
use Rattle.call_json.specs.declared.members.fault.Refusal.{Refusal}
use Rattle.call_json.specs.declared.members.fault.Refusal.TheVariants.{Missing}

-- what a reference that may be absent refers to
abbrev pub seen : Option (Bor Value) → Option Data
seen o = option_map (λ v. view v.now) o

-- the member of a value that may be absent; what is no object has none
abbrev pub member_of : List ℕ → Option Data → Option Data
member_of name o = option_and_then (get name) o

abbrev pub text_of : Option Data → Option (List ℕ)
text_of o = option_and_then as_str o

-- an id is an object with a text `value`
abbrev pub id_text_of : Option Data → Option (List ℕ)
id_text_of o = text_of (member_of (codes "value") o)

abbrev pub required : {A : Type 0} → Member → Option A → Result A Refusal
required member None = Err (Missing member)
required member (Some x) = Ok x
