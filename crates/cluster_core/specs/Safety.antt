-- Safe: what holds of every legal story.
use Rattle.std.specs.Prelude.{ℕ, ◌≤◌, List, [], ◌++◌, length, map}
use Rattle.names_core.specs.Ids.{Numbered}
use Rattle.cluster_model.specs.Channels.{AllFit, open_world}
use Rattle.cluster_model.specs.Openings.{recorded_jobs}
use Rattle.cluster_model.specs.Steps.{marked_of, opening}
use Rattle.cluster_safe.specs.Acks.{AcksAreOwners}
use Rattle.cluster_safe.specs.Entries.{Moment, moments}
use Rattle.cluster_safe.specs.Launches.{Origin}
use Rattle.cluster_safe.specs.Sources.{Traced}
use Rattle.cluster_safe.specs.Acknowledged.{AcknowledgedByOwner}
use Rattle.cluster_safe.specs.AcknowledgedAt.{CountAll, OwnersAcknowledged, acknowledged_at}
use Rattle.cluster_safe.specs.Honest.{Honest, IsBeginningOf, IsKeyOf, acknowledged_by}
use Rattle.cluster_safe.specs.Issued.{AllIssued}
use Rattle.cluster_safe.specs.Origin.{HasOrigin, Mark, jobs_of, trail}
use Rattle.cluster_safe.specs.Safe.{NeverLacksRoom}
use Rattle.cluster_safe.specs.Updates.{updates_of}
use Rattle.cluster_core.specs.Stories.{Story, history_of, state_of}

-- the offers that were made and the accepted ones that were used, over a whole story
abbrev pub trail_of : Story → List Mark
trail_of s = trail (history_of s).happenings (open_world s.setup.run s.records) []

-- all entries of a story since its opening, the newest first, each with the state before it
abbrev pub moments_of : Story → List Moment
moments_of s = moments s.setup s.records (map marked_of s.entries)

-- the framework acknowledges only updates that a Take returned before, on whatever stream
abbrev pub IsHonest : Numbered → Story → Type 0
IsHonest framework s = Honest framework (opening s.setup s.records) (map marked_of s.entries)

-- a task of the framework was launched under the key, or had it in a record at the opening
abbrev pub IsKeyIn : Story → Numbered → Numbered → Type 0
IsKeyIn s framework key = IsKeyOf framework key (jobs_of (trail_of s) ++ recorded_jobs s.records)

-- what the framework has acknowledged of the key is a beginning of the updates of its task
abbrev pub AcknowledgesInOrder : Story → Numbered → Numbered → Type 0
AcknowledgesInOrder s framework key =
    IsBeginningOf (updates_of key (history_of s).happenings (open_world s.setup.run s.records))
    (acknowledged_by s.records framework key (state_of s).posts)

-- how many of the key's first updates are acknowledged at its agent, whether its task is still in
-- the agent's record or not
abbrev pub acknowledged_of : Story → Numbered → ℕ
acknowledged_of s key =
    acknowledged_at key (history_of s).happenings (open_world s.setup.run s.records)

-- of what is acknowledged at agents: each update was named by an ACKNOWLEDGE of the task's own
-- framework, or was counted at the opening; there are no more of a key than it has updates, and as
-- many as the record counts that has its task
pub record KeepsAcknowledged (s : Story) : Type 0 where
  pub owners : OwnersAcknowledged s.records (jobs_of (trail_of s) ++ recorded_jobs s.records)
      (acknowledged_of s) (state_of s).posts
  pub most : (key : Numbered) → acknowledged_of s key
      ≤ length (updates_of key (history_of s).happenings (open_world s.setup.run s.records))
  pub counted : CountAll (acknowledged_of s) (state_of s).world

-- of all that was ever offered and launched, also of tasks that have left their records: no offer
-- id and no launch key is assigned twice, each use of offers is covered by offers that were made
-- before and that no use before it used, and the offers and the uses are those of the entries
pub record KeepsTrail (s : Story) : Type 0 where
  pub covered : HasOrigin s.records (state_of s).world (trail_of s)
  pub traced : Traced (moments_of s) (trail_of s)

-- on every agent current offers and live tasks fit what it owns; each task was launched by exactly
-- one entry, which delivered an ACCEPT of its framework, out of offers that older entries sent and
-- that no other entry uses, or it was in a record; each update counts as acknowledged by the
-- task's own framework alone, also of a task that left its record, and the last one, whose Ack
-- removes the task from it; all commands ever issued in an open session are known, in order, and
-- agents apply a beginning of them; an honest framework acknowledges in order; and no agent ever
-- lacked room
pub record Safe (s : Story) : Type 0 where
  pub fits : AllFit (state_of s).world
  pub origin : Origin s.records (state_of s).world (moments_of s)
  pub trail : KeepsTrail s
  pub acknowledged : KeepsAcknowledged s
  pub recorded : AcknowledgedByOwner s.records (state_of s).world (state_of s).posts
  pub acks : AcksAreOwners s.records (jobs_of (trail_of s) ++ recorded_jobs s.records)
      (state_of s).world (state_of s).posts
  pub issued : AllIssued (state_of s).world
  pub in_order : (framework key : Numbered) → IsHonest framework s → IsKeyIn s framework key
      → AcknowledgesInOrder s framework key
  pub room : NeverLacksRoom (history_of s)
