use Rattle.std.proofs.Common.{◌≡◌, map, take}
use Rattle.cluster_channels.specs.Streams.{receiving}
use Rattle.cluster_channels.proofs.streams.places.push_some.Given as goal

abbrev pub invariant-loop-i : goal.invariant-loop-i
invariant-loop-i l = l.streams.items ≡ map (receiving (take l.i l.events)) l.fn.streams.items
