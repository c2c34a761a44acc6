use Rattle.std.proofs.Common.{◌≡◌, ◌-◌, List, map, take, length}
use Rattle.cluster_laws.specs.Runs.{AreRising}
use Rattle.cluster_channels.specs.Streams.{KeptStream, receiving, kept_ids}
use Rattle.cluster_channels.proofs.streams.places.drop_all.Given as goal

-- the ids stay, and of events that were pushed last those before the last k are left
abbrev pub invariant-loop-k : goal.invariant-loop-k
invariant-loop-k l =
    AreRising (kept_ids l.streams.items) ×
    ((before : List KeptStream) → l.fn.streams.items ≡ map (receiving l.events) before → l.streams.items ≡ map (receiving (take (length l.events - l.k) l.events)) before)
