-- What the master has of one agent, and what it does there (Mesos paper, section 3.1: offers;
-- section 3.5: soft state, rebuilt from agents' reports).
use Rattle.std.specs.Prelude.{ℕ, suc, ◌+◌, ◌-◌, Bool, true, false, not, ◌&&◌, ◌||◌, ◌==◌, nat_lt, nat_le, if◌then◌else◌, List, [], ◌∷◌, ◌++◌, length, map, filter, flat_map, drop, take}
use Rattle.std.specs.List.{list_any, list_all}
use Rattle.names_core.specs.Ids.{Numbered, same}
use Rattle.names_core.specs.States.{is_terminal}
use Rattle.names_core.specs.declared.state.TaskState.{TaskState}
use Rattle.names_core.specs.declared.state.TaskState.TheVariants.{Staging}
use Rattle.quantity.specs.declared.rows.Row.{Row}
use Rattle.quantity.specs.Rows.{covers}
use Rattle.messages.specs.declared.task.Job.{Job}
use Rattle.messages.specs.declared.task.Offer.{Offer}
use Rattle.messages.specs.declared.task.Booked.{Booked}
use Rattle.messages.specs.declared.mail.Command.{Command}
use Rattle.messages.specs.declared.mail.Command.TheVariants.{Launch, Kill, Ack, EndFramework}
use Rattle.messages.specs.declared.mail.MasterMail.{MasterMail}
use Rattle.messages.specs.declared.mail.MasterMail.TheVariants.{Hello, Issued}
use Rattle.messages.specs.declared.mail.AgentMail.{AgentMail}
use Rattle.messages.specs.declared.mail.AgentMail.TheVariants.{Report, Applied, Update}
use Rattle.cluster_model.specs.Ids.{following, first_of_run, is_among, is_repeated, is_empty}

-- the master's run, as all sides see it
pub record Run : Type 0 where
  pub number : ℕ
  pub serves : Bool  -- the master is up
  pub torn : List Numbered  -- the frameworks torn down in this run, in order
  pub next_key : Numbered  -- the next launch key
  pub next_offer : Numbered

-- what the master has of one agent
pub record Side : Type 0 where
  pub name : List ℕ
  pub total : List Row  -- owned, by the Report that opened the session; else nothing
  pub is_open : Bool  -- a session is open
  pub session : ℕ  -- the open one
  pub closed : ℕ  -- the greatest that this run has closed, 0 if none
  pub waiting : List Command  -- issued in the open session and not known to be applied
  pub known : ℕ  -- how many are known to be applied
  pub offers : List Offer  -- current offers, in order of their making
  pub booked : List Booked  -- tasks, by launch key

-- a run begins
abbrev pub new_run : ℕ → Run
new_run number =
    record {
      number = number;
      serves = true;
      torn = [];
      next_key = first_of_run number;
      next_offer = first_of_run number;
    }

-- nothing is known of an agent but its name
abbrev pub new_side : List ℕ → Side
new_side name =
    record {
      name = name;
      total = [];
      is_open = false;
      session = 0;
      closed = 0;
      waiting = [];
      known = 0;
      offers = [];
      booked = [];
    }

abbrev pub torn_down : Numbered → Run → Run
torn_down framework run = record run { torn = run.torn ++ framework ∷ [] }

-- what is taken of the agent

-- the booked tasks that haven't ended
abbrev pub unended : List Booked → List Job
unended [] = []
unended (b ∷ bs) = if b.ended then unended bs else b.job ∷ unended bs

abbrev pub job_rows : List Job → List Row
job_rows js = flat_map (λ j. j.resources) js

abbrev pub offer_rows : List Offer → List Row
offer_rows os = flat_map (λ o. o.resources) os

-- current offers and booked tasks that haven't ended
abbrev pub taken : Side → List Row
taken s = offer_rows s.offers ++ job_rows (unended s.booked)

-- commands

-- a side after a step, the run, and the mails that are sent to the agent
pub record Sending : Type 0 where
  pub run : Run
  pub side : Side
  pub sent : List MasterMail

abbrev pub sends_nothing : Run → Side → Sending
sends_nothing run s = record { run = run; side = s; sent = [] }

-- a command is issued in the open session, with the number after the last one
abbrev pub issue : Sending → Command → Sending
issue x command =
    if x.side.is_open
    then record {
      run = x.run;
      side = record x.side { waiting = x.side.waiting ++ command ∷ [] };
      sent =
          x.sent ++ Issued x.side.session (suc (x.side.known + length x.side.waiting)) command ∷ [];
    }
    else x

-- the oldest command that isn't known to be applied, again
abbrev pub oldest_again : Side → List Command → List MasterMail
oldest_again s [] = []
oldest_again s (command ∷ later) = Issued s.session (suc s.known) command ∷ []

-- launching from accepted offers

abbrev pub just_booked : Job → Booked
just_booked job = record { job = job; ended = false; received = 0; state = Staging }

-- a job may be launched: it has the next key, is of the framework,
-- and the budget covers it beside what is used
abbrev pub may_launch : Run → Numbered → List Row → List Row → Job → Bool
may_launch run framework budget used job =
    same job.key run.next_key && same job.framework framework
    && covers budget (job.resources ++ used)

abbrev pub books : Sending → Job → Sending
books x job =
    record {
      run = record x.run { next_key = following job.key };
      side = record x.side { booked = x.side.booked ++ just_booked job ∷ [] };
      sent = x.sent;
    }

-- how far an ACCEPT's launches have come: what they use, and the side after them
pub record Launching : Type 0 where
  pub used : List Row
  pub sending : Sending

abbrev pub launch_one : Numbered → List Numbered → List Row → Launching → Job → Launching
launch_one framework ids budget x job =
    if may_launch x.sending.run framework budget x.used job
    then record {
      used = job.resources ++ x.used;
      sending = issue (books x.sending job) (Launch job ids);
    }
    else x

abbrev pub launch_all : Numbered → List Numbered → List Row → List Job → Launching → Sending
launch_all framework ids budget [] x = x.sending
launch_all framework ids budget (job ∷ jobs) x =
    launch_all framework ids budget jobs (launch_one framework ids budget x job)

-- an offer that a framework names
abbrev pub is_named : Numbered → List Numbered → Offer → Bool
is_named framework ids o = same o.framework framework && is_among ids o.id

abbrev pub has_offer : Side → Numbered → Numbered → Bool
has_offer s framework id = list_any (λ o. same o.framework framework && same o.id id) s.offers

-- an ACCEPT's offers are good: some, none twice, all current, of the framework, and on this agent
abbrev pub is_good : Side → Numbered → List Numbered → Bool
is_good s framework ids =
    s.is_open && not (is_empty ids) && not (is_repeated ids) && list_all (has_offer s framework) ids

-- the offers that an ACCEPT uses
abbrev pub used_offers : Side → Numbered → List Numbered → List Offer
used_offers s framework ids = filter (is_named framework ids) s.offers

abbrev pub without_used : Side → Numbered → List Numbered → Side
without_used s framework ids =
    record s { offers = filter (λ o. not (is_named framework ids o)) s.offers }

-- an ACCEPT of good offers: they are withdrawn, and the jobs are launched out of their sum
abbrev pub accepted : Run → Side → Numbered → List Numbered → List Job → Sending
accepted run s framework ids jobs =
    if is_good s framework ids && not (is_among run.torn framework)
    then launch_all framework ids (offer_rows (used_offers s framework ids)) jobs
    (record { used = []; sending = sends_nothing run (without_used s framework ids) })
    else sends_nothing run s

-- offers

-- an offer may be made: it has the next id, the agent's session is open,
-- and with it all still fits the total
abbrev pub may_offer : Run → Side → Offer → Bool
may_offer run s offer =
    s.is_open && same offer.id run.next_offer && covers s.total (offer.resources ++ taken s)

abbrev pub offered : Run → Side → Offer → Sending
offered run s offer =
    if may_offer run s offer
    then sends_nothing (record run { next_offer = following offer.id })
    (record s { offers = s.offers ++ offer ∷ [] })
    else sends_nothing run s

abbrev pub withdrawn : Side → List Numbered → Side
withdrawn s ids = record s { offers = filter (λ o. not (is_among ids o.id)) s.offers }

-- the agent's mails

-- an update that is received: the mark of an end stays for good; count and state follow where it
-- isn't older than the last one received
abbrev pub received_update : Numbered → ℕ → TaskState → Bool → Booked → Booked
received_update key k state ended b =
    if same b.job.key key
    then record {
      job = b.job;
      ended = b.ended || ended;
      received = (if nat_le b.received (suc k) then suc k else b.received);
      state = (if nat_le b.received (suc k) then state else b.state);
    }
    else b

-- what the books forget once a command is applied
abbrev pub forget : Command → List Booked → List Booked
forget (Launch job offers) bs = bs
forget (Kill key) bs = bs
forget (Ack key k) bs =
    filter (λ b. not (b.ended && same b.job.key key && b.received == suc k
    && is_terminal b.state)) bs
forget (EndFramework framework) bs = filter (λ b. not (same b.job.framework framework)) bs

abbrev pub forget_all : List Command → List Booked → List Booked
forget_all [] bs = bs
forget_all (command ∷ commands) bs = forget_all commands (forget command bs)

-- the session below which, and at which, a Report opens nothing
abbrev pub last_session : Side → ℕ
last_session s = if s.is_open then s.session else s.closed

-- a Report opens a session: it is of this run, and above the open session or above every closed one
abbrev pub opens : Run → Side → ℕ → ℕ → Bool
opens run s session number = run.serves && number == run.number && nat_lt (last_session s) session

-- the old session is closed, the offers are removed, the books are the reported tasks, and the
-- agent owns the reported total
abbrev pub opened : Side → ℕ → List Booked → List Row → Side
opened s session tasks total =
    record s {
      total = total;
      is_open = true;
      session = session;
      closed = last_session s;
      waiting = [];
      known = 0;
      offers = [];
      booked = tasks;
    }

-- a count of commands of the open session: above what is known, at most what was issued
abbrev pub counts : Side → ℕ → ℕ → Bool
counts s session count =
    (s.is_open && session == s.session)
    && (nat_lt s.known count && nat_le count (s.known + length s.waiting))

-- what a mail of the agent does
abbrev pub received : Run → Side → AgentMail → Side
received run s (Report session number tasks total) =
    if opens run s session number then opened s session tasks total else s
received run s (Applied session count) =
    if counts s session count
    then record s {
      booked = forget_all (take (count - s.known) s.waiting) s.booked;
      waiting = drop (count - s.known) s.waiting;
      known = count;
    }
    else s
received run s (Update session key k state ended) =
    if s.is_open && session == s.session then record s
    { booked = map (received_update key k state ended) s.booked } else s

-- ends of sessions and runs

-- no session is open, and the last one that was closed is this
abbrev pub shut : Side → ℕ → Side
shut s closed =
    record s {
      total = [];
      is_open = false;
      session = 0;
      closed = closed;
      waiting = [];
      known = 0;
      offers = [];
      booked = [];
    }

-- the agent is lost: its session is closed, and it leaves the books
abbrev pub lost : Side → Side
lost s = if s.is_open then shut s s.session else s

-- the master is down
abbrev pub halted : Side → Side
halted s = shut s (last_session s)

-- a new master knows nothing
abbrev pub restarted : Side → Side
restarted s = shut s 0

-- what the master does at one agent

pub data SideStep : Type 0 where
  MakeOffer : (offer : Offer) → SideStep
  Withdraw : (ids : List Numbered) → SideStep
  LaunchFrom : (framework : Numbered) → (ids : List Numbered) → (jobs : List Job) → SideStep
  SendKill : (key : Numbered) → SideStep
  SendAck : (key : Numbered) → (k : ℕ) → SideStep
  SendEnd : (framework : Numbered) → SideStep
  SendHello : SideStep
  SendAgain : SideStep
  Lose : SideStep

abbrev pub side_step : Run → Side → SideStep → Sending
side_step run s (MakeOffer offer) = offered run s offer
side_step run s (Withdraw ids) = sends_nothing run (withdrawn s ids)
side_step run s (LaunchFrom framework ids jobs) = accepted run s framework ids jobs
side_step run s (SendKill key) = issue (sends_nothing run s) (Kill key)
side_step run s (SendAck key k) = issue (sends_nothing run s) (Ack key k)
side_step run s (SendEnd framework) =
    if is_among run.torn framework then issue (sends_nothing run s) (EndFramework framework)
    else sends_nothing run s
side_step run s SendHello = record { run = run; side = s; sent = Hello run.number s.closed ∷ [] }
side_step run s SendAgain =
    record { run = run; side = s; sent = if s.is_open then oldest_again s s.waiting else [] }
side_step run s Lose = sends_nothing run (lost s)
