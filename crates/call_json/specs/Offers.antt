-- The calls that answer offers.
use Rattle.std.specs.Prelude.{ℕ, List, [], ◌∷◌, ◌++◌, codes, Option, Some, Result, Ok, option_and_then, unwrap_or, min}
use Rattle.serde_json.specs.Data.{Data}
use Rattle.serde_json.specs.Find.{get, as_number, as_u64}
use Rattle.names_core.specs.Ids.{Numbered}
use Rattle.call_json.specs.Answers.{◌>>=◌}
use Rattle.call_json.specs.MemberLookups.{member_of, id_text_of}
use Rattle.call_json.specs.Ids.{needed, offer_id, framework_of}
use Rattle.call_json.specs.Lists.{short_list_of, each_in}
use Rattle.call_json.specs.declared.members.fault.Member.{Member}
use Rattle.call_json.specs.declared.members.fault.Member.TheVariants as members
use Rattle.call_json.specs.declared.members.fault.Refusal.{Refusal}
use Rattle.call_json.specs.Launched.{tasks_of}
use Rattle.messages.specs.declared.call.Call.{Call}
use Rattle.messages.specs.declared.call.Call.TheVariants.{Accept, Decline}

unfoldable pub add_offer : Member → List Numbered → Data → Result (List Numbered) Refusal
add_offer member ids d = needed member offer_id (id_text_of (Some d)) >>= λ id. Ok (ids ++ id ∷ [])

-- the ids of a list of at most 256
unfoldable pub offers_of : Member → Option Data → Result (List Numbered) Refusal
offers_of member o = short_list_of member 256 o >>= each_in (add_offer member) []

-- a whole number of seconds, at most a year's, or 5
abbrev pub seconds_of : Option Data → ℕ
seconds_of o = min 31536000 (unwrap_or (option_and_then as_u64 (option_and_then as_number o)) 5)

-- for how long the filters of a call's body refuse
abbrev pub refused_for : Option Data → ℕ
refused_for body =
    seconds_of (member_of (codes "refuse_seconds") (member_of (codes "filters") body))

unfoldable pub accept_of : Data → Result Call Refusal
accept_of d = do
  framework ← framework_of d
  offers ← offers_of members.AcceptedOffers (member_of (codes "offer_ids") (get (codes "accept") d))
  tasks ← tasks_of (member_of (codes "operations") (get (codes "accept") d))
  Ok (Accept framework offers tasks (refused_for (get (codes "accept") d)))

unfoldable pub decline_of : Data → Result Call Refusal
decline_of d = do
  framework ← framework_of d
  offers ← offers_of members.DeclinedOffers
      (member_of (codes "offer_ids") (get (codes "decline") d))
  Ok (Decline framework offers (refused_for (get (codes "decline") d)))
