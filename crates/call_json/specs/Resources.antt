-- The resources that a task asks for.
use Rattle.std.specs.Prelude.{ℕ, List, [], codes, bytes_eq, Option, None, Some, Result, Ok, Err, option_and_then, if◌then◌else◌}
use Rattle.serde_json.specs.Data.{Data}
use Rattle.serde_json.specs.Find.{get, as_number, as_u64}
use Rattle.quantity.specs.Names.{is_resource_name}
use Rattle.quantity.specs.Rows.{added}
use Rattle.quantity.specs.declared.rows.Row.{Row}
use Rattle.quantity.specs.declared.fault.QuantityFault.{QuantityFault}
use Rattle.call_json.specs.Answers.{◌>>=◌}
use Rattle.call_json.specs.MemberLookups.{member_of, text_of, required}
use Rattle.call_json.specs.Ids.{needed, where_true}
use Rattle.call_json.specs.Lists.{list_of, each_in}
use Rattle.call_json.specs.declared.members.fault.Member.TheVariants as members
use Rattle.call_json.specs.declared.members.fault.Refusal.{Refusal}
use Rattle.call_json.specs.declared.members.fault.Refusal.TheVariants.{NotWhole, NotScalar, LimitExceeded}

abbrev pub resource_name : List ℕ → Option (List ℕ)
resource_name text = where_true is_resource_name text

-- a text that has to be this word
abbrev pub only_scalar : List ℕ → Result (List ℕ) Refusal
only_scalar kind = if bytes_eq kind (codes "SCALAR") then Ok kind else Err NotScalar

-- no role is reserved but the default one
abbrev pub only_default : Option (List ℕ) → Result (Option (List ℕ)) Refusal
only_default None = Ok None
only_default (Some role) = if bytes_eq role (codes "*") then Ok (Some role) else Err NotScalar

abbrev pub whole : Option ℕ → Result ℕ Refusal
whole None = Err NotWhole
whole (Some n) = Ok n

-- a number is there, and is whole
unfoldable pub amount_of : Data → Result ℕ Refusal
amount_of d =
    required members.ResourceValue
    (option_and_then as_number (member_of (codes "value") (get (codes "scalar") d))) >>= λ n.
    whole (as_u64 n)

-- what is over a limit of resources is over a limit of the call
abbrev pub within_limits : Result (List Row) QuantityFault → Result (List Row) Refusal
within_limits (Ok rows) = Ok rows
within_limits (Err fault) = Err LimitExceeded

-- a resource is a scalar, and reserved for no role but the default one
unfoldable pub kind_of : Data → Result (List ℕ) Refusal
kind_of d = do
  kind ← required members.ResourceType (text_of (get (codes "type") d))
  scalar ← only_scalar kind
  role ← only_default (text_of (get (codes "role") d))
  Ok kind

-- the rows of the resources before it, and a resource's amount added
unfoldable pub add_resource : List Row → Data → Result (List Row) Refusal
add_resource rows d = do
  name ← needed members.ResourceName resource_name (text_of (get (codes "name") d))
  kind ← kind_of d
  amount ← amount_of d
  within_limits (added name amount rows)

unfoldable pub resources_of : Option Data → Result (List Row) Refusal
resources_of o = required members.Resources (list_of o) >>= each_in add_resource []
