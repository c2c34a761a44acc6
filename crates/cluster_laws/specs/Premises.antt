-- What the code owes at each mail that it passes to a part.
use Rattle.std.specs.Prelude.{◌≡◌, ℕ, true, List, slice_get, Some}
use Rattle.std.specs.List.{AllByRecursion as Each}
use Rattle.stream_core.specs.Updates.{are_updates}
use Rattle.messages.specs.declared.mail.ToAgent.{ToAgent}
use Rattle.messages.specs.declared.mail.ToMaster.{ToMaster}
use Rattle.messages.specs.declared.record.RecordParts.{RecordParts}
use Rattle.cluster_model.specs.Channels.{Channel}
use Rattle.cluster_model.specs.Clusters.{Cluster, Down, Up}
use Rattle.cluster_model.specs.Steps.{channel_of}
use Rattle.agent_core.specs.Records.{keys_rise}

-- a record is as every value of its type: the tasks have updates as every value of the type
-- `Updates` is, and their launch keys rise
pub record IsRecorded (d : RecordParts) : Type 0 where
  pub updates : Each (λ t. are_updates t.updates.states t.updates.acknowledged ≡ true) d.tasks
  pub rising : keys_rise d.tasks ≡ true

abbrev pub AreRecorded : List RecordParts → Type 0
AreRecorded records = Each IsRecorded records

-- the post at a place of all posts is this mail to an agent, in its channel
abbrev pub IsDown : Cluster → ℕ → ToAgent → Type 0
IsDown c n to =
    (place : ℕ) × (x : Channel) × (slice_get c.posts n ≡ Some (Down to.agent place))
    × (channel_of c to.agent ≡ Some x) × (slice_get x.to_agent place ≡ Some to.mail)

-- or this mail of an agent
abbrev pub IsUp : Cluster → ℕ → ToMaster → Type 0
IsUp c n to =
    (place : ℕ) × (x : Channel) × (slice_get c.posts n ≡ Some (Up to.agent place))
    × (channel_of c to.agent ≡ Some x) × (slice_get x.to_master place ≡ Some to.mail)
