-- Streams that open and close.
use Rattle.std.specs.Prelude.{ℕ, suc, nat_le, if◌then◌else◌, length, List, [], ◌∷◌, ◌++◌, Option, Some, None}
use Rattle.names_core.specs.Ids.{Numbered}
use Rattle.messages.specs.declared.refusal.MasterRefusal.TheVariants.{LimitExceeded}
use Rattle.cluster_model.specs.Events.{Subscribed, failover_error}
use Rattle.cluster_model.specs.Masters.{MasterEffect, Master, Registers, is_of, on_stream, put_framework, refused, with_framework, withdraws}
use Rattle.cluster_model.specs.Calls.{frameworks_limit, new_stream, subscriber, to_list}
use Rattle.master_state.specs.Frameworks as frameworks
use Rattle.master_state.specs.States as states
use Rattle.master_state.specs.declared.state.State.{State}

-- a framework is subscribed on a new stream; an open one of it closes, and its offers are withdrawn
abbrev pub subscribed_on : Master → Registers → Numbered → List ℕ → Option Numbered → MasterEffect
subscribed_on m r id role known = record {
  refusal = None;
  moves = withdraws (is_of id) m;
  events = on_stream known failover_error ++ on_stream (Some (new_stream m)) (Subscribed id);
  opens = new_stream m ∷ [];
  closes = to_list known;
  registers = record (with_framework r (subscriber m id role)) { last_stream = suc r.last_stream };
}

-- a framework subscribes with its id: its open stream, if it is known
abbrev pub resubscribed_as : Master → Numbered → List ℕ → Option (Option Numbered) → MasterEffect
resubscribed_as m id role None =
    if nat_le frameworks_limit (length m.registers.frameworks) then refused m LimitExceeded
    else subscribed_on m m.registers id role None
resubscribed_as m id role (Some stream) = subscribed_on m m.registers id role stream

-- the small steps of it

abbrev pub failed_over : Numbered → State → State
failed_over stream s =
    states.closed stream (states.event_sent stream failover_error s)

abbrev pub left : Option Numbered → State → State
left None s = s
left (Some stream) s = failed_over stream s

abbrev pub with_subscriber : Numbered → List ℕ → Numbered → State → State
with_subscriber id role stream s =
    record s {
      frameworks = put_framework (frameworks.subscriber id role stream s.moment)
          s.frameworks;
    }

abbrev pub entered : Numbered → List ℕ → State → State
entered id role s =
    states.event_sent (states.new_stream s) (Subscribed id)
    (with_subscriber id role (states.new_stream s)
    (states.without_offers (is_of id) (states.opened s)))
