-- What holds of a channel, in its run, after any list of happenings.
use Rattle.std.specs.Prelude.{◌≡◌, ◌≢◌, ◌⊎◌, ℕ, suc, ◌≤◌, ◌<◌, Bool, true, false, if◌then◌else◌, List, [], ◌∷◌, ◌++◌, length, map, drop, take, slice_get, Option, Some, None, Result, Ok, Err, ⊤}
use Rattle.std.specs.List.{AllByRecursion as Each}
use Rattle.names_core.specs.Ids.{Numbered, before}
use Rattle.names_core.specs.declared.state.TaskState.{TaskState}
use Rattle.quantity.specs.declared.rows.Row.{Row}
use Rattle.quantity.specs.Rows.{amount}
use Rattle.messages.specs.declared.task.Booked.{Booked}
use Rattle.messages.specs.declared.task.Job.{Job}
use Rattle.messages.specs.declared.mail.Command.{Command}
use Rattle.messages.specs.declared.mail.Command.TheVariants.{Launch, Kill, Ack, EndFramework}
use Rattle.messages.specs.declared.mail.MasterMail.{MasterMail}
use Rattle.messages.specs.declared.mail.MasterMail.TheVariants.{Hello, Issued}
use Rattle.messages.specs.declared.mail.AgentMail.{AgentMail}
use Rattle.messages.specs.declared.mail.AgentMail.TheVariants.{Report, Applied, Update}
use Rattle.messages.specs.declared.record.RecordParts.{RecordParts}
use Rattle.messages.specs.declared.record.RecordedTask.{RecordedTask}
use Rattle.messages.specs.declared.refusal.AgentRefusal.{AgentRefusal}
use Rattle.messages.specs.declared.refusal.AgentRefusal.TheVariants.{NotForMe, OldSession, NotNext, NoSuchTask, Ended, NoRoom, UpdatesFull, SessionsSpent, TotalLess}
use Rattle.cluster_model.specs.Ids.{first_of_run, is_among}
use Rattle.cluster_model.specs.Agents.{Agent, Draft, has_ended, receives_mail}
use Rattle.cluster_model.specs.Sides.{unended, job_rows, taken}
use Rattle.cluster_model.specs.Channels.{Channel, InRun}

abbrev pub Less : Numbered → Numbered → Type 0
Less a b = before a b ≡ true

abbrev pub UpTo : Numbered → Numbered → Type 0
UpTo a b = before b a ≡ false

-- a task or a launch, seen for what it takes
pub record TaskInFlight : Type 0 where
  pub job : Job
  pub ended : Bool
  pub states : List TaskState  -- its updates
  pub comes : Bool  -- whether it is a launch that may still come into the record

-- what is recorded of the past beside the channel: all commands ever issued in each session, the
-- greatest session ever opened, the run with which each session is reported, the latest run that a
-- Hello named, and the updates that were ever in the agent's record for each key
pub record Past : Type 0 where
  pub ever : ℕ → List Command
  pub peak : ℕ
  pub told : ℕ → ℕ
  pub latest : ℕ
  pub sent : Numbered → List TaskState

-- the first are some of the second, in their order
abbrev pub Within : List Job → List Job → Type 0
Within [] ys = ⊤
Within (x ∷ xs) [] = ⊥
Within (x ∷ xs) (y ∷ ys) = ((x ≡ y) × Within xs ys) ⊎ Within (x ∷ xs) ys

abbrev pub Aged : TaskInFlight → TaskInFlight → Type 0
Aged new old =
    (new.job ≡ old.job) × (old.ended ≡ true → new.ended ≡ true)
    × (new.comes ≡ true → old.comes ≡ true)
    × ((more : List TaskState) × (new.states ≡ old.states ++ more))

-- the first are some of the second, in their order,
-- and more of them may have ended, and have more updates
abbrev pub Fades : List TaskInFlight → List TaskInFlight → Type 0
Fades [] ys = ⊤
Fades (x ∷ xs) [] = ⊥
Fades (x ∷ xs) (y ∷ ys) = (Aged x y × Fades xs ys) ⊎ Fades (x ∷ xs) ys

abbrev pub live : List TaskInFlight → List Job
live [] = []
live (s ∷ ss) = if s.ended then live ss else s.job ∷ live ss

abbrev pub task_stake : RecordedTask → TaskInFlight
task_stake t = record { job = t.job; ended = has_ended t; states = t.updates.states; comes = false }

abbrev pub launches : List Command → List TaskInFlight
launches [] = []
launches (Launch job offers ∷ whats) =
    record { job = job; ended = false; states = []; comes = true } ∷ launches whats
launches (Kill key ∷ whats) = launches whats
launches (Ack key k ∷ whats) = launches whats
launches (EndFramework framework ∷ whats) = launches whats

-- the launches that the agent may still apply
abbrev pub coming : Past → Agent → List TaskInFlight
coming p a = if a.in_session then launches (drop a.applied (p.ever a.session)) else []

-- all that is in the record or may still come into it
abbrev pub stakes : Past → Agent → List TaskInFlight
stakes p a = map task_stake a.tasks ++ coming p a

abbrev pub Distinct : List TaskInFlight → Type 0
Distinct [] = ⊤
Distinct (s ∷ ss) = Each (λ t. t.job.key ≢ s.job.key) ss × Distinct ss

-- a launch that may still come has a key after all those before it
abbrev pub InOrder : List TaskInFlight → Type 0
InOrder [] = ⊤
InOrder (s ∷ ss) = Each (λ t. t.comes ≡ true → Less s.job.key t.job.key) ss × InOrder ss

abbrev pub NotOf : Numbered → List TaskInFlight → Type 0
NotOf framework ss = Each (λ s. s.job.framework ≢ framework) ss

-- nothing is of a framework that one of the commands ends
abbrev pub EndsKept : List Command → List TaskInFlight → Type 0
EndsKept [] ss = ⊤
EndsKept (Launch job offers ∷ whats) ss = EndsKept whats ss
EndsKept (Kill key ∷ whats) ss = EndsKept whats ss
EndsKept (Ack key k ∷ whats) ss = EndsKept whats ss
EndsKept (EndFramework framework ∷ whats) ss = NotOf framework ss × EndsKept whats ss

-- no launch of a framework follows its end
abbrev pub Ordered : List Command → Type 0
Ordered [] = ⊤
Ordered (Launch job offers ∷ whats) = Ordered whats
Ordered (Kill key ∷ whats) = Ordered whats
Ordered (Ack key k ∷ whats) = Ordered whats
Ordered (EndFramework framework ∷ whats) = NotOf framework (launches whats) × Ordered whats

-- each framework that one of the commands ends was torn down
abbrev pub EndsTorn : List Numbered → List Command → Type 0
EndsTorn torn [] = ⊤
EndsTorn torn (Launch job offers ∷ whats) = EndsTorn torn whats
EndsTorn torn (Kill key ∷ whats) = EndsTorn torn whats
EndsTorn torn (Ack key k ∷ whats) = EndsTorn torn whats
EndsTorn torn (EndFramework framework ∷ whats) =
    (is_among torn framework ≡ true) × EndsTorn torn whats

abbrev pub AtMost : List Row → List Row → Type 0
AtMost rows total = (name : List ℕ) → amount name rows ≤ amount name total

-- that a key's stakes have ended
abbrev pub EndedAt : Numbered → List TaskInFlight → Type 0
EndedAt key ss = Each (λ s. s.job.key ≡ key → s.ended ≡ true) ss

-- the updates that were recorded for its key are a beginning of its updates
abbrev pub Grown : (Numbered → List TaskState) → TaskInFlight → Type 0
Grown sent s = (more : List TaskState) × (s.states ≡ sent s.job.key ++ more)

-- the agent owns at least what the master takes to be its total,
-- and all that it has or may still get fits what it owns
pub record StateOk (p : Past) (next : Numbered) (total : List Row) (a : Agent) : Type 0 where
  pub owns : AtMost total a.total
  pub told : p.told a.session ≡ a.run
  pub peak : p.peak ≤ a.session
  pub applied : a.in_session ≡ true → a.applied ≤ length (p.ever a.session)
  pub distinct : Distinct (stakes p a)
  pub order : InOrder (stakes p a)
  pub below : Each (λ s. Less s.job.key next) (stakes p a)
  pub room : AtMost (job_rows (live (stakes p a))) a.total
  pub ends : a.in_session ≡ true → EndsKept (take a.applied (p.ever a.session)) (stakes p a)
  pub grown : Each (Grown p.sent) (stakes p a)

abbrev pub DownOk : Past → MasterMail → Type 0
DownOk p (Hello run dead) = run ≤ p.latest
DownOk p (Issued session number what) =
    (session ≤ p.peak) × ((m : ℕ) × (number ≡ suc m) × (slice_get (p.ever session) m ≡ Some what))

-- a Report isn't ahead of the agent: its session and its total are at most those of the record, and
-- the total is the record's as long as the agent is in that session; until the session is opened,
-- it has all that may be live
pub record IsReportOf (p : Past) (session : ℕ) (tasks : List Booked) (total : List Row)
    (a : Agent) : Type 0 where
  pub reached : session ≤ a.session
  pub owns : AtMost total a.total
  pub same : session ≡ a.session → total ≡ a.total
  pub covered : p.peak < session → Within (live (stakes p a)) (unended tasks)

abbrev pub UpOk : Past → Numbered → List Agent → AgentMail → Type 0
UpOk p next ags (Report session run tasks total) =
    (p.told session ≡ run) × AtMost (job_rows (unended tasks)) total
    × Each (IsReportOf p session tasks total) ags
UpOk p next ags (Applied session count) =
    (session ≤ p.peak) × (count ≤ length (p.ever session)) ×
    (session ≡ p.peak → Each (λ a. EndsKept (take count (p.ever session)) (stakes p a)) ags)
UpOk p next ags (Update session key k state ended) =
    ended ≡ true → (Less key next) × Each (λ a. EndedAt key (stakes p a)) ags

abbrev pub drafted : Option Draft → List Agent
drafted None = []
drafted (Some d) = d.after ∷ []

abbrev pub mails_of : Option Draft → List AgentMail
mails_of None = []
mails_of (Some d) = d.mails

-- the record, and that of an open draft
abbrev pub states_of : InRun → List Agent
states_of l = l.agent ∷ drafted l.draft

pub record PastOk (p : Past) : Type 0 where
  pub none : (s : ℕ) → p.peak < s → p.ever s ≡ []
  pub ordered : (s : ℕ) → Ordered (p.ever s)
  pub rises : (s u : ℕ) → s ≤ u → p.told s ≤ p.told u
  pub runs : (s : ℕ) → p.told s ≤ p.latest

pub record OpenOk (p : Past) (l : InRun) : Type 0 where
  pub session : l.session ≡ p.peak
  pub told : p.told p.peak ≡ l.number
  pub known : l.known ≤ length (p.ever p.peak)
  pub issued : l.waiting ≡ drop l.known (p.ever p.peak)
  pub torn : EndsTorn l.torn (p.ever p.peak)
  pub covered : Each (λ a. Within (live (stakes p a)) (unended l.booked)) (states_of l)

pub record ShutOk (p : Past) (l : InRun) : Type 0 where
  pub offers : l.offers ≡ []
  pub booked : l.booked ≡ []
  pub closed : ((p.told p.peak ≡ l.number) × (p.peak ≤ l.closed)) ⊎ (p.told p.peak < l.number)

pub record Facts (p : Past) (l : InRun) : Type 0 where
  pub past : PastOk p
  pub run : p.latest ≤ l.number
  pub unsent : (key : Numbered) → UpTo l.next_key key → p.sent key ≡ []
  pub when_open : l.is_open ≡ true → OpenOk p l
  pub when_shut : l.is_open ≡ false → ShutOk p l
  pub states : Each (StateOk p l.next_key l.total) (states_of l)
  pub downs : Each (DownOk p) l.to_agent
  pub ups : Each (UpOk p l.next_key (states_of l)) l.to_master
  pub pending : Each (UpOk p l.next_key (drafted l.draft)) (mails_of l.draft)

abbrev pub Room : InRun → Type 0
Room l = AtMost (taken l.channel.side) l.total

-- with the updates that were ever in the agent's record
abbrev pub Kept : (Numbered → List TaskState) → InRun → Type 0
Kept sent l = (p : Past) × Facts p l × Room l × (p.sent ≡ sent)

-- it isn't refused for want of room
abbrev pub HasRoom : Result Draft AgentRefusal → Type 0
HasRoom (Ok d) = ⊤
HasRoom (Err NotForMe) = ⊤
HasRoom (Err OldSession) = ⊤
HasRoom (Err NotNext) = ⊤
HasRoom (Err NoSuchTask) = ⊤
HasRoom (Err Ended) = ⊤
HasRoom (Err UpdatesFull) = ⊤
HasRoom (Err SessionsSpent) = ⊤
HasRoom (Err TotalLess) = ⊤
HasRoom (Err NoRoom) = ⊥

-- no mail ever sent finds the agent without room
abbrev pub RoomForAll : Channel → Type 0
RoomForAll c =
    (place : ℕ) (mail : MasterMail) → slice_get c.to_agent place ≡ Some mail
    → HasRoom (receives_mail c.agent mail)

-- a record over which a run may open: its live tasks fit, no launch key occurs twice, and its run
-- and keys are below the opening's
pub record IsGood (run : ℕ) (d : RecordParts) : Type 0 where
  pub fits : AtMost (job_rows (live (map task_stake d.tasks))) d.total
  pub once : Distinct (map task_stake d.tasks)
  pub below : Each (λ s. Less s.job.key (first_of_run run)) (map task_stake d.tasks)
  pub later : d.run < run

abbrev pub AllGood : ℕ → List RecordParts → Type 0
AllGood run ds = Each (IsGood run) ds
