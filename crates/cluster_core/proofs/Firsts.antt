-- The next mail of a cluster, if there is one.
use Rattle.std.proofs.Common.{ℕ, List, Option, Some, None}
use Rattle.std.specs.Prelude.{IfNone, IfSome}
use Rattle.cluster_model.specs.Clusters.{Cluster}
use Rattle.cluster_channels.specs.Queueing.{Item}
use Rattle.cluster_core.specs.Reading.{IsFirstFrom, IsFirstTo, IsNextFrom, IsNextTo, NoneFrom, NoneTo}

pub first_to : (agent : List ℕ) (c : Cluster) (queued : List Item) (mail : Option ℕ) → IfSome mail (IsNextTo agent c queued) → IfNone mail (NoneTo agent c queued) → IsFirstTo agent c queued mail
first_to agent c queued None is none = none
first_to agent c queued (Some number) is none = is

pub first_from : (agent : List ℕ) (c : Cluster) (queued : List Item) (mail : Option ℕ) → IfSome mail (IsNextFrom agent c queued) → IfNone mail (NoneFrom agent c queued) → IsFirstFrom agent c queued mail
first_from agent c queued None is none = none
first_from agent c queued (Some number) is none = is
