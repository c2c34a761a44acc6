-- The agents of a cluster: each with its draft, and whether it is down.
use Rattle.std.specs.Prelude.{◌≡◌, ℕ, Bool, true, false, List, Option, Some, None, option_map, position, Result, Ok, Err, bytes_eq, ⊤}
use Rattle.std.specs.List.{find}
use Rattle.messages.specs.declared.mail.AgentMail.{AgentMail}
use Rattle.messages.specs.declared.record.RecordParts.{RecordParts}
use Rattle.messages.specs.declared.refusal.AgentRefusal.{AgentRefusal}
use Rattle.cluster_model.specs.Agents.{Agent, Draft, recovered}
use Rattle.agent_core.specs.Prepared.{Prepared}
use Rattle.cluster_laws.specs.Parts.{Part}

pub record KeptAgent : Type 0 where
  pub part : Part
  pub is_down : Bool

-- an open draft was prepared for the agent as it is
abbrev pub IsCurrent : Agent → Option Prepared → Type 0
IsCurrent a None = ⊤
IsCurrent a (Some d) = d.before ≡ a

abbrev pub with_part : Agent → Option Draft → KeptAgent → KeptAgent
with_part agent draft a =
    record {
      part = record { name = a.part.name; agent = agent; draft = draft };
      is_down = a.is_down;
    }

-- a draft was opened, or the cause was refused and nothing changed
abbrev pub Draws : Option AgentRefusal → KeptAgent → KeptAgent → Result Draft AgentRefusal → Type 0
Draws None old new due = (d : Draft) × (due ≡ Ok d) × (new ≡ with_part old.part.agent (Some d) old)
Draws (Some refusal) old new due = (due ≡ Err refusal) × (new ≡ old)

-- the open draft was adopted, and its mails returned; where none is open nothing changed
abbrev pub AdoptsOne : Option (List AgentMail) → Option Draft → KeptAgent → KeptAgent → Type 0
AdoptsOne given None old new = (given ≡ None) × (new ≡ old)
AdoptsOne given (Some d) old new = (given ≡ Some d.mails) × (new ≡ with_part d.after None old)

abbrev pub up : Agent → KeptAgent → KeptAgent
up agent a =
    record { part = record { name = a.part.name; agent = agent; draft = None }; is_down = false }

-- it was stopped, and is up again over its record
abbrev pub comes_up_without : KeptAgent → KeptAgent
comes_up_without a = up (recovered a.part.agent) a

-- or over its draft's record
abbrev pub comes_up_over : Option Draft → KeptAgent → KeptAgent
comes_up_over None a = a
comes_up_over (Some d) a = up (recovered d.after) a

abbrev pub comes_up_with : KeptAgent → KeptAgent
comes_up_with a = comes_up_over a.part.draft a

abbrev pub goes_down : KeptAgent → KeptAgent
goes_down a = record { part = a.part; is_down = true }

-- the place of the agent of a name
abbrev pub place_in : List ℕ → List KeptAgent → Option ℕ
place_in name agents = position (λ a. bytes_eq a.part.name name) agents

-- the agent of a name
abbrev pub agent_in : List ℕ → List KeptAgent → Option KeptAgent
agent_in name agents = find (λ a. bytes_eq a.part.name name) agents

-- the record of an agent's open draft
abbrev pub drafted : KeptAgent → Option RecordParts
drafted a = option_map (λ d. d.after.durable) a.part.draft

abbrev pub drafted_in : Option KeptAgent → Option RecordParts
drafted_in None = None
drafted_in (Some a) = drafted a

-- an agent's record
abbrev pub recorded : KeptAgent → RecordParts
recorded a = a.part.agent.durable

abbrev pub recorded_in : Option KeptAgent → Option RecordParts
recorded_in None = None
recorded_in (Some a) = Some (recorded a)

-- whether there is an agent, with an open session
abbrev pub is_in_session_in : Option KeptAgent → Bool
is_in_session_in None = false
is_in_session_in (Some a) = a.part.agent.in_session
