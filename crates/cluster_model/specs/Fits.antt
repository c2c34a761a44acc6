-- What is taken of each agent fits what it owns, and each step of the master keeps it so.
use Rattle.std.specs.Prelude.{◌≡◌, ◌≢◌, ◌≤◌, ◌<◌, ℕ, true, false, List, [], ◌∷◌, length, ⊤, bytes_eq}
use Rattle.std.specs.List.{AllByRecursion}
use Rattle.names_core.specs.Ids.{Numbered, before}
use Rattle.quantity.specs.declared.rows.Row.{Row}
use Rattle.quantity.specs.Rows.{covers}
use Rattle.quantity.specs.Laws.{AtLeast}
use Rattle.messages.specs.declared.task.Booked.{Booked}
use Rattle.messages.specs.declared.mail.AgentMail.{AgentMail}
use Rattle.messages.specs.declared.mail.AgentMail.TheVariants.{Report, Applied, Update}
use Rattle.cluster_model.specs.Sides.{Run, Side, SideStep, received, job_rows, side_step, taken, unended}
use Rattle.cluster_model.specs.Masters.{Move, Moved, move_all}
use Rattle.cluster_model.specs.Mails.{receive_at}

-- current offers and booked tasks that haven't ended are at most what the agent owns, name by name
abbrev pub FitsTotal : Side → Type 0
FitsTotal s = AtLeast s.total (taken s)

abbrev pub AllFitTotals : List Side → Type 0
AllFitTotals ss = AllByRecursion FitsTotal ss

-- the tasks of a Report that haven't ended fit the total that it reports
abbrev pub MailFits : AgentMail → Type 0
MailFits (Report session number tasks total) = covers total (job_rows (unended tasks)) ≡ true
MailFits (Applied session count) = ⊤
MailFits (Update session key k state ended) = ⊤

-- launch keys rise: each is before all that follow it
abbrev pub KeysRise : List Booked → Type 0
KeysRise [] = ⊤
KeysRise (b ∷ bs) =
    AllByRecursion (λ later. before b.job.key later.job.key ≡ true) bs × KeysRise bs

-- no task has the key of one that is booked on this side
abbrev pub AreApart : List Booked → Side → Type 0
AreApart tasks s = AllByRecursion (λ t. AllByRecursion (λ b. b.job.key ≢ t.job.key) s.booked) tasks

-- reported tasks can be booked on their agent: launch keys rise, none is booked on another agent,
-- and those that haven't ended fit the reported total
pub record AreBookable (agent : List ℕ) (tasks : List Booked) (total : List Row)
    (ss : List Side) : Type 0 where
  pub rising : KeysRise tasks
  pub apart : AllByRecursion (λ s. bytes_eq s.name agent ≡ false → AreApart tasks s) ss
  pub fits : covers total (job_rows (unended tasks)) ≡ true

-- launch keys of tasks were assigned: they are before the next one
abbrev pub KeysBefore : Numbered → List Booked → Type 0
KeysBefore next tasks = AllByRecursion (λ t. before t.job.key next ≡ true) tasks

-- a mail of an agent fits: what a Report has can be booked on it, under launch keys that were
-- assigned before
abbrev pub MailFitsAt : Run → List ℕ → AgentMail → List Side → Type 0
MailFitsAt run agent (Report session number tasks total) ss =
    AreBookable agent tasks total ss × KeysBefore run.next_key tasks
MailFitsAt run agent (Applied session count) ss = ⊤
MailFitsAt run agent (Update session key k state ended) ss = ⊤

-- a mail that reports no tasks
abbrev pub ReportsNothing : AgentMail → Type 0
ReportsNothing (Report session number tasks total) = tasks ≡ []
ReportsNothing (Applied session count) = ⊤
ReportsNothing (Update session key k state ended) = ⊤

-- it fits, whatever total it reports
abbrev pub NothingFits : Type 0
NothingFits =
    (run : Run) (agent : List ℕ) (mail : AgentMail) (ss : List Side) → ReportsNothing mail
    → MailFitsAt run agent mail ss

-- whatever the master does at an agent, what is taken still fits
abbrev pub StepsKeepFits : Type 0
StepsKeepFits =
    (run : Run) (s : Side) (step : SideStep) → FitsTotal s → FitsTotal (side_step run s step).side

abbrev pub MovesKeepFits : Type 0
MovesKeepFits =
    (moves : List Move) (x : Moved) → AllFitTotals x.sides → AllFitTotals (move_all moves x).sides

-- and whatever it receives, where what is reported fits
abbrev pub ReceivingKeepsFits : Type 0
ReceivingKeepsFits =
    (run : Run) (s : Side) (mail : AgentMail) → MailFits mail → FitsTotal s
    → FitsTotal (received run s mail)

abbrev pub ReceivingAtKeepsFits : Type 0
ReceivingAtKeepsFits =
    (agent : List ℕ) (run : Run) (mail : AgentMail) (ss : List Side) → MailFitsAt run agent mail ss
    → AllFitTotals ss → AllFitTotals (receive_at agent run mail ss)

-- the ids of current offers are before the next one
abbrev pub OffersBefore : Numbered → Side → Type 0
OffersBefore next s = AllByRecursion (λ o. before o.id next ≡ true) s.offers

-- the launch keys of booked tasks are before the next one
abbrev pub BookedBefore : Numbered → Side → Type 0
BookedBefore next s = KeysBefore next s.booked

-- as many agents as a master has at most
abbrev pub most_sides : ℕ
most_sides = 256

-- what holds of a master's sides in its run: what is taken fits, offers have ids that were
-- assigned, these are numbered from 1, booked tasks have launch keys that were assigned, and the
-- agents are few
pub record SidesFit (run : Run) (ss : List Side) : Type 0 where
  pub totals : AllFitTotals ss
  pub ids : AllByRecursion (OffersBefore run.next_offer) ss
  pub keys : AllByRecursion (BookedBefore run.next_key) ss
  pub numbered : 0 < run.next_offer.n
  pub few : length ss ≤ most_sides

-- all moves of the master keep it
abbrev pub MovesKeepSides : Type 0
MovesKeepSides =
    (moves : List Move) (x : Moved) → SidesFit x.run x.sides
    → SidesFit (move_all moves x).run (move_all moves x).sides

-- and so does what it receives, where what is reported fits
abbrev pub ReceivingKeepsSides : Type 0
ReceivingKeepsSides =
    (agent : List ℕ) (run : Run) (mail : AgentMail) (ss : List Side) → MailFitsAt run agent mail ss
    → SidesFit run ss → SidesFit run (receive_at agent run mail ss)
