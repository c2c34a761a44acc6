-- No step changes the name of a side.
use Rattle.std.proofs.Common.{◌≡◌, ◌-◌, ◌&&◌, map, take, drop, refl, ap, slice_get, Option, Some, None, Result, Ok, Err}
use Rattle.std.specs.Prelude.{◌==◌}
use Rattle.std.proofs.lemmas.Bool.{cond_both}
use Rattle.messages.specs.declared.mail.MasterMail.{MasterMail}
use Rattle.messages.specs.declared.mail.AgentMail.{AgentMail}
use Rattle.messages.specs.declared.mail.AgentMail.TheVariants.{Report, Applied, Update}
use Rattle.messages.specs.declared.refusal.AgentRefusal.{AgentRefusal}
use Rattle.cluster_model.specs.Agents.{Draft, receives_mail, next_of}
use Rattle.cluster_model.specs.Sides.{Run, Side, received_update, forget_all, opens, opened, counts}
use Rattle.cluster_model.specs.Channels.{Channel, AgentStep, Draw, DrawMail, Adopt, StopWithout, StopWith, drawn, drawn_mail, adopted, stopped_with, is_own, agent_step, ChannelStep, ByMaster, Receive, ByAgent, received_mail, happens}
use Rattle.cluster_safe.proofs.Alone.{side_name}

-- the master's part of a channel and what was sent to the agent are the same
abbrev pub SameBeside : Channel → Channel → Type 0
SameBeside c d = (d.side ≡ c.side) × (d.to_agent ≡ c.to_agent)

drawn_beside : (c : Channel) (o : Option Draft) (r : Result Draft AgentRefusal) → SameBeside c (drawn c o r)
drawn_beside c (Some rs) r = (refl, refl)
drawn_beside c None (Err refusal) = (refl, refl)
drawn_beside c None (Ok new) = (refl, refl)

drawn_mail_beside : (c : Channel) (o : Option MasterMail) → SameBeside c (drawn_mail c o)
drawn_mail_beside c None = (refl, refl)
drawn_mail_beside c (Some mail) = drawn_beside c c.draft (receives_mail c.agent mail)

adopted_beside : (c : Channel) (o : Option Draft) → SameBeside c (adopted c o)
adopted_beside c None = (refl, refl)
adopted_beside c (Some d) = (refl, refl)

stopped_beside : (c : Channel) (o : Option Draft) → SameBeside c (stopped_with c o)
stopped_beside c None = (refl, refl)
stopped_beside c (Some d) = (refl, refl)

pub agent_beside : (c : Channel) (step : AgentStep) → SameBeside c (agent_step c step)
agent_beside c (Draw cause) = cond_both (is_own cause) (drawn c c.draft (next_of c.agent cause)) c (SameBeside c) (λ e. drawn_beside c c.draft (next_of c.agent cause)) (λ e. (refl, refl))
agent_beside c (DrawMail place) = drawn_mail_beside c (slice_get c.to_agent place)
agent_beside c Adopt = adopted_beside c c.draft
agent_beside c StopWithout = (refl, refl)
agent_beside c StopWith = stopped_beside c c.draft

pub agent_side : (c : Channel) (step : AgentStep) → (agent_step c step).side ≡ c.side
agent_side c step = (agent_beside c step).0

received_name : (run : Run) (c : Channel) (o : Option AgentMail) → (received_mail run c o).side.name ≡ c.side.name
received_name run c None = refl
received_name run c (Some (Report session number tasks total)) = cond_both (opens run c.side session number) (opened c.side session tasks total) c.side (λ s. s.name ≡ c.side.name) (λ e. refl) (λ e. refl)
received_name run c (Some (Applied session count)) = cond_both (counts c.side session count) (record c.side { booked = forget_all (take (count - c.known) c.waiting) c.booked; waiting = drop (count - c.known) c.waiting; known = count }) c.side (λ s. s.name ≡ c.side.name) (λ e. refl) (λ e. refl)
received_name run c (Some (Update session key k state ended)) = cond_both (c.is_open && session == c.session) (record c.side { booked = map (received_update key k state ended) c.booked }) c.side (λ s. s.name ≡ c.side.name) (λ e. refl) (λ e. refl)

pub happens_name : (run : Run) (c : Channel) (step : ChannelStep) → (happens run c step).channel.side.name ≡ c.side.name
happens_name run c (ByMaster step) = side_name run c.side step
happens_name run c (Receive place) = received_name run c (slice_get c.to_master place)
happens_name run c (ByAgent step) = ap (λ (s : Side). s.name) (agent_side c step)
