-- What the master does at an agent's mail, at a Tick, when it loses an agent, and at a hang-up.
use Rattle.std.specs.Prelude.{◌<◌, ⊤, ℕ, suc, ◌+◌, Bool, not, ◌&&◌, ◌==◌, nat_lt, nat_le, if◌then◌else◌, List, [], ◌∷◌, ◌++◌, map, filter, flat_map, Option, Some, None, bytes_eq}
use Rattle.std.specs.List.{list_any, find}
use Rattle.names_core.specs.Ids.{Numbered, same}
use Rattle.names_core.specs.declared.state.TaskState.{TaskState}
use Rattle.names_core.specs.declared.state.TaskState.TheVariants.{Lost}
use Rattle.messages.specs.declared.task.Offer.{Offer}
use Rattle.messages.specs.declared.task.Booked.{Booked}
use Rattle.messages.specs.declared.mail.AgentMail.{AgentMail}
use Rattle.messages.specs.declared.mail.AgentMail.TheVariants.{Report, Applied, Update}
use Rattle.messages.specs.declared.refusal.MasterRefusal.{MasterRefusal}
use Rattle.messages.specs.declared.refusal.MasterRefusal.TheVariants.{OtherRun, OldSession, Closed, NotOpen}
use Rattle.stream_core.specs.Updates.{most_updates}
use Rattle.cluster_model.specs.Sides.{Run, Side, SendEnd, SendHello, SendAgain, Lose, opens, received}
use Rattle.cluster_model.specs.Events.{StreamEvent, Rescind, Failure, Heartbeat, update_event}
use Rattle.cluster_model.specs.Masters.{Master, Framework, MasterEffect, Move, AtSide, nothing, refused, saying, events_to, events_to_all, on_stream, is_torn, is_of, withdraws, with_framework, without_filters_on}
use Rattle.cluster_model.specs.Calls.{is_stream}

-- an agent's mail

-- an update has a number that an agent's record has room for
abbrev pub FitsRecord : AgentMail → Type 0
FitsRecord (Report session number tasks total) = ⊤
FitsRecord (Applied session count) = ⊤
FitsRecord (Update session key k state ended) = k < most_updates

-- a session that isn't above the last one
abbrev pub judged_session : Side → ℕ → Option MasterRefusal → Option MasterRefusal
judged_session s session otherwise =
    if s.is_open && nat_lt session s.session then Some OldSession
    else (if not s.is_open && nat_le session s.closed then Some Closed else otherwise)

abbrev pub in_session : Side → ℕ → Option MasterRefusal
in_session s session =
    if s.is_open && session == s.session then None else judged_session s session (Some NotOpen)

-- why a mail is refused, if it is
abbrev pub judged : Run → Side → AgentMail → Option MasterRefusal
judged run s (Report session number tasks total) =
    if number == run.number then judged_session s session None else Some OtherRun
judged run s (Applied session count) = in_session s session
judged run s (Update session key k state ended) = in_session s session

-- RESCIND of offers
abbrev pub rescinds : Master → List Offer → List StreamEvent
rescinds m os = flat_map (λ o. events_to m o.framework (Rescind o.id)) os

-- TASK_LOST of booked tasks that haven't ended
abbrev pub loses : Master → List ℕ → List Booked → List StreamEvent
loses m agent bs =
    flat_map (λ b. if b.ended then []
    else events_to m b.job.framework (update_event b.job.name Lost (Some agent) None)) bs

abbrev pub is_reported : List Booked → Booked → Bool
is_reported tasks b = list_any (λ t. same t.job.key b.job.key) tasks

-- a framework that was torn down in this run and still has reported tasks
abbrev pub is_to_end : Master → List Booked → Framework → Bool
is_to_end m tasks f = is_torn m f.id && list_any (λ t. same t.job.framework f.id) tasks

-- what goes with a Report that opens a session
abbrev pub session_opens : Master → Side → List Booked → MasterEffect
session_opens m s tasks = record {
  refusal = None;
  moves =
      map (λ f. AtSide s.name (SendEnd f.id)) (filter (is_to_end m tasks) m.registers.frameworks);
  events = rescinds m s.offers ++ loses m s.name (filter (λ b. not (is_reported tasks b)) s.booked);
  opens = [];
  closes = [];
  registers = without_filters_on s.name m.registers;
}

-- an update of a booked task that isn't older than the last one received goes to its framework
abbrev pub news_of : Master → List ℕ → Numbered → ℕ → TaskState → Booked → List StreamEvent
news_of m agent key k state b =
    if same b.job.key key && nat_le b.received (suc k)
    then events_to m b.job.framework
    (update_event b.job.name state (Some agent) (Some (record { key = key; k = k }))) else []

abbrev pub goes_with : Master → Side → AgentMail → MasterEffect
goes_with m s (Report session number tasks total) =
    if opens m.run s session number then session_opens m s tasks else nothing m
goes_with m s (Applied session count) = nothing m
goes_with m s (Update session key k state ended) =
    saying m (flat_map (news_of m s.name key k state) s.booked)

-- a Hello goes with every refusal but that of another run
abbrev pub mailed_as : Master → Side → AgentMail → Option MasterRefusal → MasterEffect
mailed_as m s mail None = goes_with m s mail
mailed_as m s mail (Some OtherRun) = refused m OtherRun
mailed_as m s mail (Some refusal) =
    record (refused m refusal) { moves = AtSide s.name SendHello ∷ [] }

-- what goes with a mail of this side's agent, beside what the mail does to the side
abbrev pub mail_effect : Master → Side → AgentMail → MasterEffect
mail_effect m s mail = mailed_as m s mail (judged m.run s mail)

-- the master's sides, once the side of an agent has received a mail
abbrev pub receive_at : List ℕ → Run → AgentMail → List Side → List Side
receive_at agent run mail [] = []
receive_at agent run mail (s ∷ ss) =
    if bytes_eq s.name agent then received run s mail ∷ ss else s ∷ receive_at agent run mail ss

abbrev pub having_received : Master → List ℕ → AgentMail → Master
having_received m agent mail =
    record { run = m.run; sides = receive_at agent m.run mail m.sides; registers = m.registers }

-- Tick

abbrev pub heartbeat_seconds : ℕ
heartbeat_seconds = 15

abbrev pub is_due : ℕ → Framework → Bool
is_due now f = nat_le (f.last_beat + heartbeat_seconds) now

abbrev pub beats : ℕ → Framework → List StreamEvent
beats now f = if is_due now f then on_stream f.stream Heartbeat else []

abbrev pub beaten_on : ℕ → Framework → Option Numbered → Framework
beaten_on now f None = f
beaten_on now f (Some stream) = if is_due now f then record f { last_beat = now } else f

abbrev pub after_heartbeat : ℕ → Framework → Framework
after_heartbeat now f = beaten_on now f f.stream

-- a Hello where no session is open, else the oldest waiting command again
abbrev pub ticks : Side → Move
ticks s = AtSide s.name (if s.is_open then SendAgain else SendHello)

abbrev pub ticked : Master → ℕ → MasterEffect
ticked m now = record {
  refusal = None;
  moves = map ticks m.sides;
  events = flat_map (beats now) m.registers.frameworks;
  opens = [];
  closes = [];
  registers =
      record m.registers { now = now; frameworks = map (after_heartbeat now) m.registers.frameworks };
}

-- LoseAgent

abbrev pub agent_lost : Master → Side → MasterEffect
agent_lost m s =
    if s.is_open
    then record {
      refusal = None;
      moves = AtSide s.name Lose ∷ AtSide s.name SendHello ∷ [];
      events =
          rescinds m s.offers ++ loses m s.name s.booked
          ++ events_to_all m.registers.frameworks (Failure s.name);
      opens = [];
      closes = [];
      registers = without_filters_on s.name m.registers;
    }
    else nothing m

-- HangUp

abbrev pub hung_up_by : Master → Numbered → Option Framework → MasterEffect
hung_up_by m stream None = nothing m
hung_up_by m stream (Some f) = record {
  refusal = None;
  moves = withdraws (is_of f.id) m;
  events = [];
  opens = [];
  closes = stream ∷ [];
  registers = with_framework m.registers (record f { stream = None });
}

abbrev pub hung_up : Master → Numbered → MasterEffect
hung_up m stream =
    hung_up_by m stream (find (λ f. is_stream stream f.stream) m.registers.frameworks)
