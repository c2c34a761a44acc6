-- Ids and names in a call.
use Rattle.std.specs.Prelude.{ℕ, List, Bool, codes, Option, None, Some, Result, Ok, Err, if◌then◌else◌}
use Rattle.serde_json.specs.Data.{Data}
use Rattle.serde_json.specs.Find.{get}
use Rattle.names_core.specs.Ids.{Numbered, id_of}
use Rattle.names_core.specs.Names.{is_role, is_name}
use Rattle.call_json.specs.Answers.{◌>>=◌}
use Rattle.call_json.specs.MemberLookups.{id_text_of, required}
use Rattle.call_json.specs.declared.members.fault.Member.{Member}
use Rattle.call_json.specs.declared.members.fault.Member.TheVariants as members
use Rattle.call_json.specs.declared.members.fault.Refusal.{Refusal}
use Rattle.call_json.specs.declared.members.fault.Refusal.TheVariants.{BadId}

-- what a text that is there reads as
abbrev pub known : {A : Type 0} → Option A → Result A Refusal
known None = Err BadId
known (Some x) = Ok x

-- a text that may be absent, but not wrong
unfoldable pub optional : {A : Type 0} → (List ℕ → Option A) → Option (List ℕ)
    → Result (Option A) Refusal
optional reads None = Ok None
optional reads (Some text) = known (reads text) >>= λ x. Ok (Some x)

-- a text that is neither absent nor wrong
unfoldable pub needed : {A : Type 0} → Member → (List ℕ → Option A) → Option (List ℕ)
    → Result A Refusal
needed member reads o = required member o >>= λ text. known (reads text)

-- the text itself, where the test holds
abbrev pub where_true : (List ℕ → Bool) → List ℕ → Option (List ℕ)
where_true test text = if test text then Some text else None

abbrev pub framework_id : List ℕ → Option Numbered
framework_id text = id_of 70 text

abbrev pub offer_id : List ℕ → Option Numbered
offer_id text = id_of 79 text

abbrev pub role_name : List ℕ → Option (List ℕ)
role_name text = where_true is_role text

-- the name of a task or of an agent
abbrev pub plain_name : List ℕ → Option (List ℕ)
plain_name text = where_true is_name text

-- the framework that a call is of
abbrev pub framework_of : Data → Result Numbered Refusal
framework_of d = needed members.FrameworkId framework_id (id_text_of (get (codes "framework_id") d))
