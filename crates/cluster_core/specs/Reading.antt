-- What is read of a cluster's streams and mails.
use Rattle.std.specs.Prelude.{◌≡◌, ℕ, Bool, true, false, if◌then◌else◌, List, Option, Some, None, option_map}
use Rattle.names_core.specs.Ids.{Numbered}
use Rattle.cluster_model.specs.Clusters.{Cluster, Down, Up, master_of}
use Rattle.cluster_model.specs.Steps.{post_at}
use Rattle.master_core.specs.Steps.{is_open}
use Rattle.cluster_channels.specs.Queueing.{Item, hands_out}
use Rattle.cluster_channels.specs.Kept.{kept_streams}
use Rattle.cluster_channels.specs.Streams.{count_on}

-- how many events of a stream nobody took yet, where it was ever opened
abbrev pub waiting_in : Numbered → Cluster → Option ℕ
waiting_in stream c = count_on stream (kept_streams c.streams)

-- whether a stream is the open one of a framework, where a master serves
abbrev pub is_open_in : Numbered → Cluster → Bool
is_open_in stream c = if c.world.run.serves then is_open stream (Some (master_of c)) else false

-- how many events of a stream nobody took yet, and whether it is open, where it was ever opened
abbrev pub stream_in : Numbered → Cluster → Option (ℕ × Bool)
stream_in stream c = option_map (λ waiting. (waiting, is_open_in stream c)) (waiting_in stream c)

-- under this number is a mail to an agent that can be delivered:
-- of the mails to it the first that wasn't
pub record IsNextTo (agent : List ℕ) (c : Cluster) (queued : List Item) (number : ℕ) : Type 0 where
  pub place : ℕ
  pub is : post_at c number ≡ Some (Down agent place)
  pub waits : hands_out queued number ≡ true

-- no mail to an agent can be delivered
abbrev pub NoneTo : List ℕ → Cluster → List Item → Type 0
NoneTo agent c queued =
    (number place : ℕ) → post_at c number ≡ Some (Down agent place)
    → hands_out queued number ≡ false

-- under this number is a mail from an agent that can be delivered:
-- of the mails from it the first that wasn't
pub record IsNextFrom (agent : List ℕ) (c : Cluster) (queued : List Item)
    (number : ℕ) : Type 0 where
  pub place : ℕ
  pub is : post_at c number ≡ Some (Up agent place)
  pub waits : hands_out queued number ≡ true

-- no mail from an agent can be delivered
abbrev pub NoneFrom : List ℕ → Cluster → List Item → Type 0
NoneFrom agent c queued =
    (number place : ℕ) → post_at c number ≡ Some (Up agent place) → hands_out queued number ≡ false

-- which mail to an agent is the next to be delivered, if there is one
abbrev pub IsFirstTo : List ℕ → Cluster → List Item → Option ℕ → Type 0
IsFirstTo agent c queued None = NoneTo agent c queued
IsFirstTo agent c queued (Some number) = IsNextTo agent c queued number

-- which mail from an agent is the next to be delivered, if there is one
abbrev pub IsFirstFrom : List ℕ → Cluster → List Item → Option ℕ → Type 0
IsFirstFrom agent c queued None = NoneFrom agent c queued
IsFirstFrom agent c queued (Some number) = IsNextFrom agent c queued number
