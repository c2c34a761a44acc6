-- What is kept of the model's streams.
use Rattle.std.specs.Prelude.{◌≤◌, List, map, drop, length, slice_get, Option, Some, None}
use Rattle.std.specs.List.{AllByRecursion as Each}
use Rattle.names_core.specs.Ids.{Numbered}
use Rattle.cluster_model.specs.Events.{Event}
use Rattle.cluster_model.specs.Clusters.{Cluster, Stream}
use Rattle.cluster_model.specs.Steps.{stream_at}
use Rattle.cluster_channels.specs.Streams.{KeptStream}

-- the events that nobody took yet
abbrev pub kept_stream : Stream → KeptStream
kept_stream s = record { id = s.id; waiting = drop s.taken s.events }

abbrev pub kept_streams : List Stream → List KeptStream
kept_streams streams = map kept_stream streams

-- no more is taken than there is
abbrev pub AreWithin : List Stream → Type 0
AreWithin streams = Each (λ s. s.taken ≤ length s.events) streams

abbrev pub untaken_of : Option Stream → Option Event
untaken_of None = None
untaken_of (Some s) = slice_get s.events s.taken

-- the event of a stream that is taken next
abbrev pub untaken : Cluster → Numbered → Option Event
untaken c id = untaken_of (stream_at c id)
