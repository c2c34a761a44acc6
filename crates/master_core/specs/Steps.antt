-- A master's steps, as the model of a cluster has them.
use Rattle.std.specs.declared.alloc.AllocError.{AllocError}
use Rattle.std.specs.Prelude.{◌≡◌, ⊤, ℕ, Bool, false, List, [], map, Option, Some, None, Result, Ok, Err}
use Rattle.std.specs.List.{list_any}
use Rattle.names_core.specs.Ids.{Numbered}
use Rattle.messages.specs.declared.mail.AgentMail.{AgentMail}
use Rattle.quantity.specs.declared.rows.Row.{Row}
use Rattle.quantity.specs.Rows.{plus_rows}
use Rattle.cluster_model.specs.Sides.{SendHello, offer_rows}
use Rattle.cluster_model.specs.Masters.{AtSide, MasterEffect, Master, after_doing, moved, moving}
use Rattle.cluster_model.specs.Calls.{is_stream}
use Rattle.cluster_model.specs.Mails.{having_received}
use Rattle.master_agents.specs.Looks.{value_of}
use Rattle.master_state.specs.declared.fault.MasterFault.{MasterFault}
use Rattle.master_state.specs.declared.fault.MasterFault.TheVariants.{OutOfMemory, Refused}
use Rattle.master_state.specs.declared.state.Outs.{Outs}
use Rattle.master_state.specs.declared.state.State.{State}
use Rattle.master_state.specs.States.{cleared, no_outs}
use Rattle.master_state.specs.Works.{run_of}
use Rattle.master_agents.specs.Named.{mailed_by}
use Rattle.cluster_model.specs.Fits.{SidesFit}
pub use Rattle.master_core.specs.declared.master.ReceivedMail.{ReceivedMail}

-- the outputs of a step
abbrev pub outs_of : Master → MasterEffect → Outs
outs_of m d =
    record {
      events = d.events;
      opened = d.opens;
      closed = d.closes;
      mails = (moved m d.moves).sent;
    }

-- A step of a master that is up was done, or it was refused and nothing changed.
-- Where memory was refused, which it is only in a step that isn't refused, the master is down: it
-- answers so for ever.
abbrev pub Answers : Result Outs MasterFault → Option Master → Option Master → (Master → MasterEffect)
    → Type 0
Answers (Ok outs) None after doing = ⊥
Answers (Ok outs) (Some m) after doing =
    ((doing m).refusal ≡ None) × (outs ≡ outs_of m (doing m))
    × (after ≡ Some (after_doing m (doing m)))
Answers (Err OutOfMemory) None after doing = after ≡ None
Answers (Err OutOfMemory) (Some m) after doing = ((doing m).refusal ≡ None) × (after ≡ None)
Answers (Err (Refused refusal)) None after doing = ⊥
Answers (Err (Refused refusal)) (Some m) after doing =
    ((doing m).refusal ≡ Some refusal) × (after ≡ Some m)

-- A mail was received, and what goes with it was done; why it was refused is returned.
abbrev pub Receives : Result ReceivedMail MasterFault → Option Master → Option Master → List ℕ
    → AgentMail → Type 0
Receives (Ok received) None after agent mail = ⊥
Receives (Ok received) (Some m) after agent mail =
    (received.refusal ≡ (mailed_by m agent mail).refusal)
    × (received.outs ≡ outs_of (having_received m agent mail) (mailed_by m agent mail))
    × (after ≡ Some (after_doing (having_received m agent mail) (mailed_by m agent mail)))
Receives (Err OutOfMemory) before after agent mail = after ≡ None
Receives (Err (Refused refusal)) before after agent mail = ⊥

-- a Hello to every agent
abbrev pub greeting : Master → MasterEffect
greeting m = moving m (map (λ s. AtSide s.name SendHello) m.sides)

-- the sum of an agent's current offers
abbrev pub offered_on : Master → List ℕ → List Row
offered_on m agent = plus_rows [] (offer_rows (value_of agent (λ s. s.offers) [] m.sides))

-- whether a stream is the open one of a framework
abbrev pub is_open : Numbered → Option Master → Bool
is_open stream None = false
is_open stream (Some m) = list_any (λ f. is_stream stream f.stream) m.registers.frameworks

-- ---- for private clauses

-- what a master has between its steps: no outputs, and sides that fit what the agents own
abbrev pub IsRest : State → Type 0
IsRest s = (s.outs ≡ no_outs) × SidesFit (run_of s) s.sides

abbrev pub IsAtRest : Option State → Type 0
IsAtRest None = ⊤
IsAtRest (Some s) = IsRest s

-- the answer of a step that only memory can refuse
abbrev pub of_memory : Result Unit AllocError → Result Unit MasterFault
of_memory (Ok x) = Ok x
of_memory (Err e) = Err OutOfMemory

-- the outputs of a step that was done are returned; where it wanted memory there is no state
abbrev pub Settled : Result Unit MasterFault → Option State → Option State → Result Outs MasterFault
    → Type 0
Settled (Ok x) None new result = (new ≡ None) × (result ≡ Err OutOfMemory)
Settled (Ok x) (Some s) new result = (new ≡ Some (cleared s)) × (result ≡ Ok s.outs)
Settled (Err OutOfMemory) old new result = (new ≡ None) × (result ≡ Err OutOfMemory)
Settled (Err (Refused refusal)) old new result = (new ≡ old) × (result ≡ Err (Refused refusal))
