-- Which entries offers and tasks come from.
use Rattle.std.specs.Prelude.{◌≡◌, ◌⊎◌, ℕ, List, [], ◌∷◌, ◌++◌}
use Rattle.std.specs.List.{AllByRecursion as Each}
use Rattle.messages.specs.declared.call.TaskInfo.{TaskInfo}
use Rattle.messages.specs.declared.record.RecordParts.{RecordParts}
use Rattle.messages.specs.declared.task.Job.{Job}
use Rattle.cluster_model.specs.Channels.{Channel, World}
use Rattle.cluster_safe.specs.Listed.{IsListed}
use Rattle.cluster_safe.specs.Origin.{Mark, Made, Used, Use, IsCovered, IsOneOf, recorded_on}
use Rattle.cluster_safe.specs.Entries.{Moment}
use Rattle.cluster_safe.specs.Launches.{Accepts, IsCurrent, IsOffered, WasOffered}

-- the entry delivered an ACCEPT of the use's framework, which named its offers and lists each job
-- that was launched, on this agent; the offers that were used were current just before
pub record IsAccepted (m : Moment) (u : Use) : Type 0 where
  pub tasks : List TaskInfo
  pub accepts : Accepts m u.framework u.ids tasks
  pub listed : Each (IsListed u.agent tasks) u.jobs
  pub current : Each (IsCurrent m.before u.agent) u.offers

abbrev pub IsSource : Moment → Mark → Type 0
IsSource m (Made g) = IsOffered m g
IsSource m (Used u) = IsAccepted m u

-- the marks are those of the entries, one entry after another, the newest first
abbrev pub Traced : List Moment → List Mark → Type 0
Traced [] marks = marks ≡ []
Traced (m ∷ older) marks =
    (own rest : List Mark) × (marks ≡ own ++ rest) × Each (IsSource m) own × Traced older rest

-- the entry launched the job on this agent: it delivered an ACCEPT of the job's framework, out of
-- whose offers the job was launched, and each of these was made on the agent by an older entry,
-- which sent it to that framework
pub record LaunchedBy (m : Moment) (older : List Moment) (agent : List ℕ) (j : Job) : Type 0 where
  pub used : Use
  pub here : used.agent ≡ agent
  pub job : IsOneOf j used.jobs
  pub accepted : IsAccepted m used
  pub covered : IsCovered used
  pub offered : Each (WasOffered older agent) used.offers

-- one of these entries launched the job on this agent
abbrev pub WasLaunched : List Moment → List ℕ → Job → Type 0
WasLaunched [] agent j = ⊥
WasLaunched (m ∷ older) agent j = LaunchedBy m older agent j ⊎ WasLaunched older agent j

-- each task of a record was launched on its agent by an entry, or was there at the opening
abbrev pub HaveSources : List RecordParts → World → List Moment → Type 0
HaveSources records w ms =
    Each (λ (c : Channel). Each (λ t. WasLaunched ms c.side.name t.job
    ⊎ IsOneOf t.job (recorded_on c.side.name records)) c.agent.durable.tasks) w.channels
