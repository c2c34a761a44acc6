use Rattle.std.proofs.Common.{◌≡◌, ◌++◌, map, take}
use Rattle.cluster_channels.specs.Streams.{opened_stream}
use Rattle.cluster_channels.proofs.streams.places.open_all.Given as goal

abbrev pub invariant-loop-id : goal.invariant-loop-id
invariant-loop-id l = l.streams.items ≡ l.fn.streams.items ++ map opened_stream (take l.id-index l.opened)
