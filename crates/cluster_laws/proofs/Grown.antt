-- Whatever happens, mails only join at the ends of their channels, and agents keep their names.
use Rattle.std.proofs.Common.{◌≡◌, ℕ, List, [], ◌∷◌, ◌++◌, map, Option, Some, None, Result, Ok, Err, refl, sym, ap, ◌∙◌, append-nil, bytes_eq, slice_get}
use Rattle.std.specs.Prelude.{⊤}
use Rattle.std.proofs.lemmas.Bool.{cond_both}
use Rattle.messages.specs.declared.mail.MasterMail.{MasterMail}
use Rattle.messages.specs.declared.mail.AgentMail.{AgentMail}
use Rattle.messages.specs.declared.refusal.AgentRefusal.{AgentRefusal}
use Rattle.cluster_model.specs.Agents.{Draft, receives_mail, next_of}
use Rattle.cluster_model.specs.Sides.{Run, Side, halted, restarted, side_step}
use Rattle.cluster_model.specs.Channels.{Channel, AgentStep, Draw, DrawMail, Adopt, StopWithout, StopWith, drawn, drawn_mail, adopted, stopped_with, is_own, agent_step, ChannelStep, ByMaster, Receive, ByAgent, received_mail, happens, World, Happening, At, TearDown, Restart, Halt, behind, in_front, at_agent, with_side, after, after_all}
use Rattle.cluster_laws.specs.Items.{names_of}
use Rattle.cluster_laws.proofs.Lists.{cons_same}
use Rattle.cluster_laws.proofs.Sides.{SameName, side_name, received_name}

-- what an agent does in its channel

pub record ByItself (c d : Channel) : Type 0 where
  pub side : d.side ≡ c.side
  pub down : d.to_agent ≡ c.to_agent
  pub up : (more : List AgentMail) × (d.to_master ≡ c.to_master ++ more)

itself : (c : Channel) → ByItself c c
itself c = record { side = refl; down = refl; up = ([], sym (append-nil c.to_master)) }

drawn_itself : (c : Channel) (o : Option Draft) (r : Result Draft AgentRefusal) → ByItself c (drawn c o r)
drawn_itself c (Some old) r = itself c
drawn_itself c None (Err refusal) = itself c
drawn_itself c None (Ok new) = record { side = refl; down = refl; up = ([], sym (append-nil c.to_master)) }

drawn_mail_itself : (c : Channel) (o : Option MasterMail) → ByItself c (drawn_mail c o)
drawn_mail_itself c None = itself c
drawn_mail_itself c (Some mail) = drawn_itself c c.draft (receives_mail c.agent mail)

adopted_itself : (c : Channel) (o : Option Draft) → ByItself c (adopted c o)
adopted_itself c None = itself c
adopted_itself c (Some d) = record { side = refl; down = refl; up = (d.mails, refl) }

stopped_itself : (c : Channel) (o : Option Draft) → ByItself c (stopped_with c o)
stopped_itself c None = itself c
stopped_itself c (Some d) = record { side = refl; down = refl; up = ([], sym (append-nil c.to_master)) }

pub agent_itself : (c : Channel) (step : AgentStep) → ByItself c (agent_step c step)
agent_itself c (Draw cause) = cond_both (is_own cause) (drawn c c.draft (next_of c.agent cause)) c (ByItself c) (λ e. drawn_itself c c.draft (next_of c.agent cause)) (λ e. itself c)
agent_itself c (DrawMail place) = drawn_mail_itself c (slice_get c.to_agent place)
agent_itself c Adopt = adopted_itself c c.draft
agent_itself c StopWithout = record { side = refl; down = refl; up = ([], sym (append-nil c.to_master)) }
agent_itself c StopWith = stopped_itself c c.draft

-- a channel

pub record GrownOne (old new : Channel) : Type 0 where
  pub name : SameName old.side new.side
  pub down : (more : List MasterMail) × (new.to_agent ≡ old.to_agent ++ more)
  pub up : (more : List AgentMail) × (new.to_master ≡ old.to_master ++ more)

one_same : (c : Channel) → GrownOne c c
one_same c = record { name = refl; down = ([], sym (append-nil c.to_agent)); up = ([], sym (append-nil c.to_master)) }

received_grown : (run : Run) (c : Channel) (o : Option AgentMail) → GrownOne c (received_mail run c o)
received_grown run c None = one_same c
received_grown run c (Some mail) = record { name = received_name run c.side mail; down = ([], sym (append-nil c.to_agent)); up = ([], sym (append-nil c.to_master)) }

pub happens_grown : (run : Run) (c : Channel) (step : ChannelStep) → GrownOne c (happens run c step).channel
happens_grown run c (ByMaster step) = record { name = side_name run c.side step; down = ((side_step run c.side step).sent, refl); up = ([], sym (append-nil c.to_master)) }
happens_grown run c (Receive place) = received_grown run c (slice_get c.to_master place)
happens_grown run c (ByAgent step) =
    let i = agent_itself c step in
    record { name = ap (λ (s : Side). s.name) i.side; down = ([], i.down ∙ sym (append-nil c.to_agent)); up = i.up }

-- all channels

abbrev pub Grown : List Channel → List Channel → Type 0
Grown [] [] = ⊤
Grown [] (n ∷ ns) = ⊥
Grown (o ∷ os) [] = ⊥
Grown (o ∷ os) (n ∷ ns) = GrownOne o n × Grown os ns

pub grown_same : (cs : List Channel) → Grown cs cs
grown_same [] = tt
grown_same (c ∷ cs) = (one_same c, grown_same cs)

at_grown : (agent : List ℕ) (step : ChannelStep) (run : Run) (cs : List Channel) → Grown cs (at_agent agent step run cs).channels
at_grown agent step run [] = tt
at_grown agent step run (c ∷ cs) =
    let rest = at_grown agent step run cs in
    cond_both (bytes_eq c.side.name agent) (in_front (happens run c step) cs) (behind c (at_agent agent step run cs)) (λ w. Grown (c ∷ cs) w.channels) (λ e. (happens_grown run c step, grown_same cs)) (λ e. (one_same c, rest))

sides_grown : (f : Side → Side) → ((s : Side) → SameName s (f s)) → (cs : List Channel) → Grown cs (map (with_side f) cs)
sides_grown f same [] = tt
sides_grown f same (c ∷ cs) = (record { name = same c.side; down = ([], sym (append-nil c.to_agent)); up = ([], sym (append-nil c.to_master)) }, sides_grown f same cs)

pub world_grown : (w : World) (h : Happening) → Grown w.channels (after w h).channels
world_grown w (At agent step) = at_grown agent step w.run w.channels
world_grown w (TearDown framework) = grown_same w.channels
world_grown w Restart = sides_grown restarted (λ s. refl) w.channels
world_grown w Halt = sides_grown halted (λ s. refl) w.channels

-- names

pub names_grown : (olds news : List Channel) → Grown olds news → names_of news ≡ names_of olds
names_grown [] [] h = refl
names_grown [] (n ∷ ns) h = absurd h
names_grown (o ∷ os) [] h = absurd h
names_grown (o ∷ os) (n ∷ ns) h = cons_same n.side.name o.side.name (names_of ns) (names_of os) h.0.name (names_grown os ns h.1)

pub worlds_named : (hs : List Happening) (w : World) → names_of (after_all hs w).channels ≡ names_of w.channels
worlds_named [] w = refl
worlds_named (h ∷ hs) w = worlds_named hs (after w h) ∙ names_grown w.channels (after w h).channels (world_grown w h)
