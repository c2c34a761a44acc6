-- What the parts may rest on of every mail that was ever sent.
use Rattle.std.specs.Prelude.{◌≡◌, ◌≢◌, ℕ, suc, List, true, slice_get, Some}
use Rattle.std.specs.List.{AllByRecursion as Each}
use Rattle.names_core.specs.Ids.{Numbered}
use Rattle.messages.specs.declared.task.Job.{Job}
use Rattle.messages.specs.declared.task.Booked.{Booked}
use Rattle.quantity.specs.declared.rows.Row.{Row}
use Rattle.messages.specs.declared.mail.Command.TheVariants.{Launch}
use Rattle.messages.specs.declared.mail.MasterMail.TheVariants.{Issued}
use Rattle.messages.specs.declared.mail.AgentMail.TheVariants.{Report}
use Rattle.cluster_model.specs.Sides.{job_rows, unended}
use Rattle.cluster_model.specs.Channels.{Channel}
use Rattle.cluster_safe.specs.Facts.{AtMost, Less}

-- the key of a Launch that is the next command of the agent's open session isn't in its record
abbrev pub NextLaunchIsNew : Channel → Type 0
NextLaunchIsNew c =
    (place session number : ℕ) (job : Job) (offers : List Numbered)
    → slice_get c.to_agent place ≡ Some (Issued session number (Launch job offers))
    → c.agent.in_session ≡ true →
    session ≡ c.agent.durable.session → number ≡ suc c.agent.applied
    → Each (λ t. t.job.key ≢ job.key) c.agent.durable.tasks

-- the tasks of a Report that haven't ended fit the total that it reports
abbrev pub ReportFits : Channel → Type 0
ReportFits c =
    (place session run : ℕ) (tasks : List Booked) (total : List Row)
    → slice_get c.to_master place ≡ Some (Report session run tasks total)
    → AtMost (job_rows (unended tasks)) total

-- no task of a Report has the key of one that is booked on another agent
abbrev pub ReportIsApart : List Channel → Channel → Type 0
ReportIsApart all c =
    (place session run : ℕ) (tasks : List Booked) (total : List Row)
    → slice_get c.to_master place ≡ Some (Report session run tasks total)
    → Each (λ d. d.side.name ≢ c.side.name
    → Each (λ t. Each (λ b. b.job.key ≢ t.job.key) d.side.booked) tasks) all

-- the launch keys of a Report's tasks were assigned: they are before the next one
abbrev pub ReportIsAssigned : Numbered → Channel → Type 0
ReportIsAssigned next c =
    (place session run : ℕ) (tasks : List Booked) (total : List Row)
    → slice_get c.to_master place ≡ Some (Report session run tasks total)
    → Each (λ t. Less t.job.key next) tasks

pub record MeetsPremises (next : Numbered) (all : List Channel) (c : Channel) : Type 0 where
  pub launch : NextLaunchIsNew c
  pub report : ReportFits c
  pub apart : ReportIsApart all c
  pub assigned : ReportIsAssigned next c
