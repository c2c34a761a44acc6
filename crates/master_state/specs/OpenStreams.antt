-- The index of open streams.
use Rattle.std.specs.Prelude.{◌≡◌, true, if◌then◌else◌, ◌↔◌, List, map, Option, Some, None, option_and_then}
use Rattle.std.specs.Ordering.{nat_cmp, ordering_then}
use Rattle.std.specs.declared.cmp.Ordering.{Ordering}
use Rattle.std.specs.BTreeMap.{BTreeMap, get}
use Rattle.names_core.specs.Ids.{Numbered}
use Rattle.messages.specs.declared.framework.Framework.{Framework}
use Rattle.cluster_model.specs.Calls.{is_stream}
use Rattle.master_state.specs.Frameworks.{are_ordered, with_id}

-- the order of streams: by run, then by number
abbrev pub stream_cmp : Numbered → Numbered → Ordering
stream_cmp a b = ordering_then (nat_cmp a.run b.run) (nat_cmp a.n b.n)

-- the framework of a stream in the index
abbrev pub led_by : BTreeMap Numbered Numbered → Numbered → Option Numbered
led_by index stream = get stream_cmp index stream

-- without this stream, if it is one; others keep their framework
abbrev pub without : Option Numbered → (Numbered → Option Numbered) → Numbered → Option Numbered
without shut leads stream = if is_stream stream shut then None else leads stream

abbrev pub streams_of : List Framework → List (Option Numbered)
streams_of fs = map (λ f. f.stream) fs

-- the open stream of the framework of this id, if it has one
abbrev pub open_stream : Numbered → List Framework → Option Numbered
open_stream id fs = option_and_then (λ f. f.stream) (with_id id fs)

-- a stream is in the index with just that framework whose open stream it is
abbrev pub LeadToOpen : (Numbered → Option Numbered) → List Framework → Type 0
LeadToOpen leads fs =
    (stream id : Numbered) → (leads stream ≡ Some id) ↔ (open_stream id fs ≡ Some stream)

-- frameworks in order, and an index of their open streams
pub record IsTable (leads : Numbered → Option Numbered) (fs : List Framework) : Type 0 where
  pub ordered : are_ordered fs ≡ true
  pub led : LeadToOpen leads fs
