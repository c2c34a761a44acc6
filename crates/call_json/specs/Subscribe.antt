-- The call that opens an event stream.
use Rattle.std.specs.Prelude.{ℕ, List, ◌==◌, ◌&&◌, codes, Option, None, Some, Result, Ok, Err, option_and_then, unwrap_or, if◌then◌else◌}
use Rattle.serde_json.specs.Data.{Data, Items, no_items, item}
use Rattle.serde_json.specs.Find.{get, as_array, as_str}
use Rattle.names_core.specs.Ids.{Numbered}
use Rattle.call_json.specs.Answers.{◌>>=◌}
use Rattle.call_json.specs.MemberLookups.{member_of, text_of, id_text_of, required}
use Rattle.call_json.specs.Ids.{optional, framework_id, role_name}
use Rattle.messages.specs.declared.call.Call.{Call}
use Rattle.messages.specs.declared.call.Call.TheVariants.{Subscribe}
use Rattle.call_json.specs.declared.members.fault.Member.TheVariants as members
use Rattle.call_json.specs.declared.members.fault.Refusal.{Refusal}
use Rattle.call_json.specs.declared.members.fault.Refusal.TheVariants.{BadId, TooManyRoles}

-- the one role of a list, if it has any
abbrev pub roles_of : Option Items → Result (Option (List ℕ)) Refusal
roles_of None = Ok None
roles_of (Some no_items) = Ok None
roles_of (Some (item d no_items)) =
    required members.Roles (as_str d) >>= λ text. optional role_name (Some text)
roles_of (Some (item d (item e ds))) = Err TooManyRoles

-- two ids that may be absent and don't differ
abbrev pub one_id : Option Numbered → Option Numbered → Result (Option Numbered) Refusal
one_id None j = Ok j
one_id (Some i) None = Ok (Some i)
one_id (Some i) (Some j) = if (i.run == j.run) && (i.n == j.n) then Ok (Some i) else Err BadId

-- the role of `roles`, else `role`, else `*`
abbrev pub chosen_role : Option (List ℕ) → Option (List ℕ) → List ℕ
chosen_role (Some one) role = one
chosen_role None role = unwrap_or role (codes "*")

abbrev pub info_of : Data → Option Data
info_of d = member_of (codes "framework_info") (get (codes "subscribe") d)

-- the id of a `framework_info`, which has a user and a name
unfoldable pub info_id : Option Data → Result (Option Numbered) Refusal
info_id info = do
  user ← required members.User (text_of (member_of (codes "user") info))
  name ← required members.FrameworkName (text_of (member_of (codes "name") info))
  optional framework_id (id_text_of (member_of (codes "id") info))

-- its role
unfoldable pub info_role : Option Data → Result (List ℕ) Refusal
info_role info = do
  role ← optional role_name (text_of (member_of (codes "role") info))
  one ← roles_of (option_and_then as_array (member_of (codes "roles") info))
  Ok (chosen_role one role)

-- the id of the framework, which `framework_info` has, or the call itself
unfoldable pub call_id : Data → Option Numbered → Result (Option Numbered) Refusal
call_id d id = do
  framework ← optional framework_id (id_text_of (get (codes "framework_id") d))
  one_id id framework

unfoldable pub subscribe_of : Data → Result Call Refusal
subscribe_of d = do
  id ← info_id (info_of d)
  role ← info_role (info_of d)
  framework ← call_id d id
  Ok (Subscribe framework role)
