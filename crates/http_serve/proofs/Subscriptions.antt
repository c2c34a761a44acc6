-- An accepted SUBSCRIBE tells its last event on the stream that it opens.
use Rattle.std.proofs.Common.{refl}
use Rattle.std.specs.Prelude.{◌≡◌, ℕ, suc, Bool, true, false, ◌||◌, nat_le, if◌then◌else◌, List, ◌++◌, length, Option, Some, None}
use Rattle.names_core.specs.Ids.{Numbered}
use Rattle.messages.specs.declared.call.Call.TheVariants.{Subscribe}
use Rattle.messages.specs.declared.refusal.MasterRefusal.{MasterRefusal}
use Rattle.messages.specs.declared.refusal.MasterRefusal.TheVariants.{NoSuchFramework, LimitExceeded}
use Rattle.cluster_model.specs.Calls.{call_effect, frameworks_limit, is_unassigned, new_stream, removed, resubscribed, subscribed}
use Rattle.cluster_model.specs.Events.{Event, Subscribed, failover_error, removal_error}
use Rattle.cluster_model.specs.Ids.{last_number}
use Rattle.cluster_model.specs.Masters.{MasterEffect, Framework, Master, Registers, framework_of, is_torn, on_stream, refused, stream_of}
use Rattle.http_serve.specs.Answers.{EndsOnOpened, last_of}

ends_with : (known : Option Numbered) (left : Event) (stream : Numbered) (event : Event) → last_of (on_stream known left ++ on_stream (Some stream) event) ≡ Some (record { stream = stream; event = event })
ends_with None left stream event = refl
ends_with (Some known) left stream event = refl

unless : (b : Bool) (m : Master) (refusal : MasterRefusal) (d : MasterEffect) → (d.refusal ≡ None → EndsOnOpened d) → (if b then refused m refusal else d).refusal ≡ None → EndsOnOpened (if b then refused m refusal else d)
unless true m refusal d ends h = absurd (let clash : Some refusal ≡ None = h in cc)
unless false m refusal d ends h = ends h

subscribed_ends : (m : Master) (r : Registers) (id : Numbered) (role : List ℕ) (known : Option Framework) → EndsOnOpened (subscribed m r id role known)
subscribed_ends m r id role known = (record { stream = new_stream m; event = Subscribed id }, ends_with (stream_of known) failover_error (new_stream m) (Subscribed id), refl)

removed_ends : (m : Master) → EndsOnOpened (removed m)
removed_ends m = (record { stream = new_stream m; event = removal_error }, refl, refl)

resubscribed_ends : (m : Master) (id : Numbered) (role : List ℕ) (known : Option Framework) → (resubscribed m id role known).refusal ≡ None → EndsOnOpened (resubscribed m id role known)
resubscribed_ends m id role None h =
    unless (nat_le frameworks_limit (length m.registers.frameworks)) m LimitExceeded (subscribed m m.registers id role None) (λ h. subscribed_ends m m.registers id role None) h
resubscribed_ends m id role (Some f) h = subscribed_ends m m.registers id role (Some f)

returns_ends : (b : Bool) (m : Master) (id : Numbered) (role : List ℕ) (known : Option Framework) → (if b then removed m else resubscribed m id role known).refusal ≡ None
    → EndsOnOpened (if b then removed m else resubscribed m id role known)
returns_ends true m id role known h = removed_ends m
returns_ends false m id role known h = resubscribed_ends m id role known h

pub subscriptions_end : (m : Master) (given : Option Numbered) (framework : Option Numbered) (role : List ℕ) → (call_effect m given (Subscribe framework role)).refusal ≡ None
    → EndsOnOpened (call_effect m given (Subscribe framework role))
subscriptions_end m given None role h =
    unless
    (nat_le frameworks_limit (length m.registers.frameworks) || nat_le last_number m.registers.last_framework || nat_le last_number m.registers.last_stream)
    m
    LimitExceeded
    (subscribed m (record m.registers { last_framework = suc m.registers.last_framework }) (record { run = m.run.number; n = suc m.registers.last_framework }) role None)
    (λ h. subscribed_ends m (record m.registers { last_framework = suc m.registers.last_framework }) (record { run = m.run.number; n = suc m.registers.last_framework }) role None)
    h
subscriptions_end m given (Some id) role h =
    let returning : MasterEffect = if is_torn m id then removed m else resubscribed m id role (framework_of m id) in
    let within : MasterEffect = if nat_le last_number m.registers.last_stream then refused m LimitExceeded else returning in
    unless
    (is_unassigned m id)
    m
    NoSuchFramework
    within
    (λ h. unless (nat_le last_number m.registers.last_stream) m LimitExceeded returning (λ h. returns_ends (is_torn m id) m id role (framework_of m id) h) h)
    h
