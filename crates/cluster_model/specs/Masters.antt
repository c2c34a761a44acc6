-- The master: its sides of all agents, what it knows of frameworks, and what a step of it does.
use Rattle.std.specs.Prelude.{ℕ, ◌+◌, Bool, true, false, not, ◌&&◌, ◌||◌, ◌==◌, nat_lt, nat_le, if◌then◌else◌, cond, List, [], ◌∷◌, ◌++◌, length, map, filter, flat_map, fold, Option, Some, None, bytes_eq}
use Rattle.std.specs.List.{find}
use Rattle.names_core.specs.Ids.{Numbered, same, before}
use Rattle.quantity.specs.declared.rows.Row.{Row}
use Rattle.messages.specs.declared.task.Offer.{Offer}
use Rattle.messages.specs.declared.task.Booked.{Booked}
use Rattle.messages.specs.declared.mail.ToAgent.{ToAgent}
use Rattle.messages.specs.declared.refusal.MasterRefusal.{MasterRefusal}
pub use Rattle.messages.specs.declared.framework.Filter.{Filter}
pub use Rattle.messages.specs.declared.framework.Framework.{Framework}
use Rattle.cluster_model.specs.Ids.{is_among, last_number}
use Rattle.cluster_model.specs.Sides.{Run, Side, Sending, SideStep, Withdraw, new_run, side_step, torn_down, halted, restarted}
use Rattle.cluster_model.specs.Events.{Event, StreamEvent}

-- frameworks

-- what the master has beside its sides
pub record Registers : Type 0 where
  pub now : ℕ  -- the moment of its last Tick
  pub frameworks : List Framework  -- by id
  pub last_framework : ℕ  -- how many ids were assigned in this run
  pub last_stream : ℕ

pub record Master : Type 0 where
  pub run : Run
  pub sides : List Side  -- by agents' names in byte order
  pub registers : Registers

abbrev pub new_registers : Registers
new_registers = record { now = 0; frameworks = []; last_framework = 0; last_stream = 0 }

-- what a step does

-- what the master does at one agent, or everywhere
pub data Move : Type 0 where
  AtSide : (agent : List ℕ) → (step : SideStep) → Move
  TearDownAll : (framework : Numbered) → Move
  RestartAll : Move
  HaltAll : Move

-- why it refuses, if it does; its moves; its events in the order made;
-- the streams that it opens and closes; and what it has then beside its sides
pub record MasterEffect : Type 0 where
  pub refusal : Option MasterRefusal
  pub moves : List Move
  pub events : List StreamEvent
  pub opens : List Numbered
  pub closes : List Numbered
  pub registers : Registers

abbrev pub nothing : Master → MasterEffect
nothing m =
    record {
      refusal = None;
      moves = [];
      events = [];
      opens = [];
      closes = [];
      registers = m.registers;
    }

abbrev pub refused : Master → MasterRefusal → MasterEffect
refused m refusal =
    record {
      refusal = Some refusal;
      moves = [];
      events = [];
      opens = [];
      closes = [];
      registers = m.registers;
    }

abbrev pub saying : Master → List StreamEvent → MasterEffect
saying m events =
    record {
      refusal = None;
      moves = [];
      events = events;
      opens = [];
      closes = [];
      registers = m.registers;
    }

abbrev pub moving : Master → List Move → MasterEffect
moving m moves =
    record {
      refusal = None;
      moves = moves;
      events = [];
      opens = [];
      closes = [];
      registers = m.registers;
    }

abbrev pub keeping : Registers → MasterEffect
keeping registers =
    record {
      refusal = None;
      moves = [];
      events = [];
      opens = [];
      closes = [];
      registers = registers;
    }

-- the master's own view of its moves: the run, its sides,
-- and the mails that it sends, in the order made
pub record Moved : Type 0 where
  pub run : Run
  pub sides : List Side
  pub sent : List ToAgent

abbrev pub past_side : Side → Moved → Moved
past_side s x = record { run = x.run; sides = s ∷ x.sides; sent = x.sent }

abbrev pub at_this_side : List ℕ → Sending → List Side → Moved
at_this_side agent x ss =
    record {
      run = x.run;
      sides = x.side ∷ ss;
      sent = map (λ mail. record { agent = agent; mail = mail }) x.sent;
    }

abbrev pub at_side : List ℕ → SideStep → Run → List Side → Moved
at_side agent step run [] = record { run = run; sides = []; sent = [] }
at_side agent step run (s ∷ ss) =
    if bytes_eq s.name agent then at_this_side agent (side_step run s step) ss
    else past_side s (at_side agent step run ss)

abbrev pub sending_more : List ToAgent → Moved → Moved
sending_more sent x = record { run = x.run; sides = x.sides; sent = sent ++ x.sent }

abbrev pub move : Moved → Move → Moved
move x (AtSide agent step) = sending_more x.sent (at_side agent step x.run x.sides)
move x (TearDownAll framework) =
    record { run = torn_down framework x.run; sides = x.sides; sent = x.sent }
move x RestartAll =
    record { run = new_run (1 + x.run.number); sides = map restarted x.sides; sent = x.sent }
move x HaltAll =
    record { run = record x.run { serves = false }; sides = map halted x.sides; sent = x.sent }

abbrev pub move_all : List Move → Moved → Moved
move_all [] x = x
move_all (m ∷ ms) x = move_all ms (move x m)

abbrev pub unmoved : Master → Moved
unmoved m = record { run = m.run; sides = m.sides; sent = [] }

-- what the master's moves make of its sides, and the mails that they send
abbrev pub moved : Master → List Move → Moved
moved m moves = move_all moves (unmoved m)

-- the master after a step
abbrev pub after_doing : Master → MasterEffect → Master
after_doing m d = let x =
    moved m d.moves in record { run = x.run; sides = x.sides; registers = d.registers }

-- frameworks and their streams

abbrev pub framework_of : Master → Numbered → Option Framework
framework_of m id = find (λ f. same f.id id) m.registers.frameworks

abbrev pub is_torn : Master → Numbered → Bool
is_torn m framework = is_among m.run.torn framework

-- in its place by id, in place of what was there
abbrev pub put_framework : Framework → List Framework → List Framework
put_framework f fs = filter (λ g. before g.id f.id) fs ++ f ∷ filter (λ g. before f.id g.id) fs

abbrev pub with_framework : Registers → Framework → Registers
with_framework r f = record r { frameworks = put_framework f r.frameworks }

-- an event on a stream, where there is one
abbrev pub on_stream : Option Numbered → Event → List StreamEvent
on_stream None event = []
on_stream (Some stream) event = record { stream = stream; event = event } ∷ []

abbrev pub stream_of : Option Framework → Option Numbered
stream_of None = None
stream_of (Some f) = f.stream

-- an event to a framework, where it has an open stream
abbrev pub events_to : Master → Numbered → Event → List StreamEvent
events_to m framework event = on_stream (stream_of (framework_of m framework)) event

abbrev pub events_to_all : List Framework → Event → List StreamEvent
events_to_all fs event = flat_map (λ f. on_stream f.stream event) fs

-- booked tasks

-- a booked task on its agent
pub record Placed : Type 0 where
  pub agent : List ℕ
  pub booked : Booked

abbrev pub placed_on : Side → List Placed
placed_on s = map (λ b. record { agent = s.name; booked = b }) s.booked

abbrev pub all_booked : Master → List Placed
all_booked m = flat_map placed_on m.sides

-- in its place by launch key
abbrev pub put_placed : List Placed → Placed → List Placed
put_placed ps p =
    filter (λ q. before q.booked.job.key p.booked.job.key) ps ++ p
    ∷ filter (λ q. before p.booked.job.key q.booked.job.key) ps

abbrev pub is_task_of : Numbered → List ℕ → Placed → Bool
is_task_of framework task p =
    same p.booked.job.framework framework && bytes_eq p.booked.job.name task

-- of two, the one that hasn't ended, then the one with the least key
abbrev pub stands_before : Placed → Placed → Bool
stands_before p q =
    if p.booked.ended then q.booked.ended && before p.booked.job.key q.booked.job.key
    else q.booked.ended || before p.booked.job.key q.booked.job.key

abbrev pub first_placed : Option Placed → Placed → Option Placed
first_placed None p = Some p
first_placed (Some q) p = if stands_before p q then Some p else Some q

-- the booked task of a framework with that name, if any: it is held
abbrev pub held_among : List Placed → Numbered → List ℕ → Option Placed
held_among ps framework task = fold first_placed None (filter (is_task_of framework task) ps)

abbrev pub held : Master → Numbered → List ℕ → Option Placed
held m framework task = held_among (all_booked m) framework task

-- offers

abbrev pub is_of : Numbered → Offer → Bool
is_of framework o = same o.framework framework

-- the offers that pass a test are withdrawn, on every agent
abbrev pub withdraws_on : (Offer → Bool) → Side → Move
withdraws_on test s = AtSide s.name (Withdraw (map (λ o. o.id) (filter test s.offers)))

abbrev pub withdraws : (Offer → Bool) → Master → List Move
withdraws test m = map (withdraws_on test) m.sides

-- filters

-- without the oldest on that agent
abbrev pub drop_oldest : List ℕ → List Filter → List Filter
drop_oldest agent [] = []
drop_oldest agent (x ∷ xs) = let rest =
    x ∷ drop_oldest agent xs in cond (bytes_eq x.agent agent) xs rest

abbrev pub count_on : List ℕ → List Filter → ℕ
count_on agent xs = length (filter (λ x. bytes_eq x.agent agent) xs)

-- a framework has at most so many filters on an agent
abbrev pub most_filters : ℕ
most_filters = 64

-- a filter of refused rows, where there are any and the seconds aren't 0;
-- the oldest one on the agent makes room
abbrev pub add_filter : ℕ → ℕ → List Filter → List ℕ → List Row → List Filter
add_filter now seconds filters agent [] = filters
add_filter now seconds filters agent (row ∷ rows) =
    if seconds == 0 then filters
    else (if nat_le most_filters (count_on agent filters) then drop_oldest agent filters
    else filters)
    ++ record { agent = agent; made = now; seconds = seconds; refused = row ∷ rows } ∷ []

-- filters on an agent end with its session
abbrev pub clear_on : List ℕ → Framework → Framework
clear_on agent f = record f { filters = filter (λ x. not (bytes_eq x.agent agent)) f.filters }

abbrev pub without_filters_on : List ℕ → Registers → Registers
without_filters_on agent r = record r { frameworks = map (clear_on agent) r.frameworks }

-- sides

abbrev pub side_of : Master → List ℕ → Option Side
side_of m agent = find (λ s. bytes_eq s.name agent) m.sides

-- so many command numbers are left in the agent's session
abbrev pub has_numbers : ℕ → Side → Bool
has_numbers count s = nat_le (s.known + length s.waiting + count) last_number

-- no agent, or one with so many numbers left
abbrev pub may_have_numbers : ℕ → Option Side → Bool
may_have_numbers count None = true
may_have_numbers count (Some s) = has_numbers count s

-- the agent has opened a session in this run
abbrev pub has_returned : Side → Bool
has_returned s = s.is_open || nat_lt 0 s.closed
