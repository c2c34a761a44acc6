-- What a master refuses it refuses alone.
use Rattle.std.proofs.Common.{◌≡◌, ℕ, suc, Bool, true, false, not, ◌||◌, List, [], ◌∷◌, ◌++◌, length, map, refl, ap, Option, Some, None, nat_le}
use Rattle.std.specs.Prelude.{if◌then◌else◌}
use Rattle.std.specs.List.{find, list_any}
use Rattle.names_core.specs.Ids.{Numbered}
use Rattle.messages.specs.declared.refusal.MasterRefusal.{MasterRefusal}
use Rattle.messages.specs.declared.refusal.MasterRefusal.TheVariants.{NotSubscribed, WrongStream, NoSuchFramework, LimitExceeded}
use Rattle.messages.specs.declared.call.Call.{Call}
use Rattle.messages.specs.declared.call.Call.TheVariants.{Subscribe, Teardown, Accept, Decline, Revive, Suppress, Acknowledge, Reconcile}
use Rattle.messages.specs.declared.call.Call.TheVariants as calls
use Rattle.messages.specs.declared.call.ReconciledTask.{ReconciledTask}
use Rattle.names_core.specs.Weights.{RoleWeight}
use Rattle.cluster_model.specs.Ids.{last_number}
use Rattle.cluster_model.specs.Sides.{Side, SendKill, SendAck, SendEnd, SendHello, Lose}
use Rattle.cluster_model.specs.Events.{Failure}
use Rattle.cluster_model.specs.Masters.{Framework, Master, Move, AtSide, TearDownAll, MasterEffect, nothing, refused, saying, moving, framework_of, is_torn, with_framework, events_to_all, Placed, all_booked, held, is_of, withdraws, without_filters_on, side_of, has_numbers, may_have_numbers}
use Rattle.cluster_model.specs.Calls.{frameworks_limit, to_list, subscribed, removed, resubscribed, is_unassigned, sides_with_tasks, on_teardown, answers_held, Given, good_side, given_by, Accepting, accepts_all, accepted_as, passes_limits, accepted_from, on_accept, on_decline, on_revive, on_suppress, commanding, on_kill, is_last_received, on_acknowledge, on_reconcile, is_stream, on_its_stream, by_known, call_effect}
use Rattle.cluster_model.specs.Mails.{rescinds, loses, ticked, agent_lost, hung_up_by, hung_up}
use Rattle.cluster_model.specs.Rounds.{allocated}
use Rattle.cluster_laws.specs.Runs.{RefusesAlone}

fine : (m : Master) (d : MasterEffect) → d.refusal ≡ None → RefusesAlone m d
fine m d h r e = absurd (let clash : None ≡ Some r = cc in cc)

alone : (m : Master) (x : MasterRefusal) → RefusesAlone m (refused m x)
alone m x r e = let same : x ≡ r = cc in ap (refused m) same

if_alone : (m : Master) (b : Bool) (x y : MasterEffect) → RefusesAlone m x → RefusesAlone m y → RefusesAlone m (if b then x else y)
if_alone m true x y h k = h
if_alone m false x y h k = k

resubscribes : (m : Master) (id : Numbered) (role : List ℕ) (o : Option Framework) → RefusesAlone m (resubscribed m id role o)
resubscribes m id role None = if_alone m (nat_le frameworks_limit (length m.registers.frameworks)) (refused m LimitExceeded) (subscribed m m.registers id role None) (alone m LimitExceeded) (fine m (subscribed m m.registers id role None) refl)
resubscribes m id role (Some f) = fine m (subscribed m m.registers id role (Some f)) refl

commands : (m : Master) (s : Option Side) (order : Move) → RefusesAlone m (commanding m s order)
commands m s order = if_alone m (may_have_numbers 1 s) (moving m (order ∷ [])) (refused m LimitExceeded) (fine m (moving m (order ∷ [])) refl) (alone m LimitExceeded)

on_stream_too : (m : Master) (stream o : Option Numbered) (d : MasterEffect) → RefusesAlone m d → RefusesAlone m (on_its_stream m stream o d)
on_stream_too m stream None d h = alone m NotSubscribed
on_stream_too m stream (Some s) d h = if_alone m (is_stream s stream) d (refused m WrongStream) h (alone m WrongStream)

known_too : (m : Master) (stream : Option Numbered) (o : Option Framework) (doing : Framework → MasterEffect) → ((f : Framework) → RefusesAlone m (doing f)) → RefusesAlone m (by_known m stream o doing)
known_too m stream None doing h = alone m NoSuchFramework
known_too m stream (Some f) doing h = if_alone m (is_torn m f.id) (refused m NoSuchFramework) (on_its_stream m stream f.stream (doing f)) (alone m NoSuchFramework) (on_stream_too m stream f.stream (doing f) (h f))

tears_down : (m : Master) (f : Framework) → RefusesAlone m (on_teardown m f)
tears_down m f = if_alone m (list_any (λ s. not (has_numbers 1 s)) (sides_with_tasks m f.id)) (refused m LimitExceeded) torn (alone m LimitExceeded) (fine m torn refl)
  where
    torn : MasterEffect
    torn = record { refusal = None; moves = withdraws (is_of f.id) m ++ TearDownAll f.id ∷ map (λ s. AtSide s.name (SendEnd f.id)) (sides_with_tasks m f.id); events = []; opens = []; closes = to_list f.stream; registers = with_framework m.registers (record f { stream = None }) }

accepts : (m : Master) (f : Framework) (ids : List Numbered) (seconds : ℕ) (g : Option Given) (x : Accepting) → RefusesAlone m (accepted_as m f ids seconds g x)
accepts m f ids seconds None x = fine m (accepted_as m f ids seconds None x) refl
accepts m f ids seconds (Some g) x = fine m (accepted_as m f ids seconds (Some g) x) refl

kills : (m : Master) (task : List ℕ) (agent : Option (List ℕ)) (f : Framework) (o : Option Placed) → RefusesAlone m (on_kill m task agent f o)
kills m task agent f None = fine m (on_kill m task agent f None) refl
kills m task agent f (Some p) = if_alone m p.booked.ended (saying m (answers_held f p)) (commanding m (side_of m p.agent) (AtSide p.agent (SendKill p.booked.job.key))) (fine m (saying m (answers_held f p)) refl) (commands m (side_of m p.agent) (AtSide p.agent (SendKill p.booked.job.key)))

reconciled : (m : Master) (asked : List ReconciledTask) (f : Framework) → RefusesAlone m (on_reconcile m asked f)
reconciled m [] f = fine m (on_reconcile m [] f) refl
reconciled m (a ∷ more) f = fine m (on_reconcile m (a ∷ more) f) refl

pub calls_alone : (m : Master) (stream : Option Numbered) (call : Call) → RefusesAlone m (call_effect m stream call)
calls_alone m stream (Subscribe None role) = if_alone m (nat_le frameworks_limit (length m.registers.frameworks) || nat_le last_number m.registers.last_framework || nat_le last_number m.registers.last_stream) (refused m LimitExceeded) (subscribed m (record m.registers { last_framework = suc m.registers.last_framework }) (record { run = m.run.number; n = suc m.registers.last_framework }) role None) (alone m LimitExceeded)
    (fine m (subscribed m (record m.registers { last_framework = suc m.registers.last_framework }) (record { run = m.run.number; n = suc m.registers.last_framework }) role None) refl)
calls_alone m stream (Subscribe (Some id) role) = if_alone m (is_unassigned m id) (refused m NoSuchFramework) (if nat_le last_number m.registers.last_stream then refused m LimitExceeded else (if is_torn m id then removed m else resubscribed m id role (framework_of m id))) (alone m NoSuchFramework)
    (if_alone m (nat_le last_number m.registers.last_stream) (refused m LimitExceeded) (if is_torn m id then removed m else resubscribed m id role (framework_of m id)) (alone m LimitExceeded)
    (if_alone m (is_torn m id) (removed m) (resubscribed m id role (framework_of m id)) (fine m (removed m) refl) (resubscribes m id role (framework_of m id))))
calls_alone m stream (Teardown framework) = known_too m stream (framework_of m framework) (on_teardown m) (tears_down m)
calls_alone m stream (Accept framework offers tasks seconds) = known_too m stream (framework_of m framework) (on_accept m offers tasks seconds)
    (λ f. if_alone m (passes_limits m (length tasks) (good_side m f.id offers)) (refused m LimitExceeded) (accepted_from m offers tasks seconds f (given_by f.id offers (good_side m f.id offers))) (alone m LimitExceeded)
    (accepts m f offers seconds (given_by f.id offers (good_side m f.id offers)) (accepts_all m f (given_by f.id offers (good_side m f.id offers)) tasks)))
calls_alone m stream (Decline framework offers seconds) = known_too m stream (framework_of m framework) (on_decline m offers seconds) (λ f. fine m (on_decline m offers seconds f) refl)
calls_alone m stream (Revive framework) = known_too m stream (framework_of m framework) (on_revive m) (λ f. fine m (on_revive m f) refl)
calls_alone m stream (Suppress framework) = known_too m stream (framework_of m framework) (on_suppress m) (λ f. fine m (on_suppress m f) refl)
calls_alone m stream (calls.Kill framework task agent) = known_too m stream (framework_of m framework) (λ f. on_kill m task agent f (held m f.id task)) (λ f. kills m task agent f (held m f.id task))
calls_alone m stream (Acknowledge framework agent task uuid) = known_too m stream (framework_of m framework) (on_acknowledge m agent task uuid.key uuid.k)
    (λ f. if_alone m (list_any (is_last_received f agent task uuid.key uuid.k) (all_booked m)) (commanding m (side_of m agent) (AtSide agent (SendAck uuid.key uuid.k))) (nothing m) (commands m (side_of m agent) (AtSide agent (SendAck uuid.key uuid.k))) (fine m (nothing m) refl))
calls_alone m stream (Reconcile framework tasks) = known_too m stream (framework_of m framework) (on_reconcile m tasks) (reconciled m tasks)

pub losses_alone : (m : Master) (s : Side) → RefusesAlone m (agent_lost m s)
losses_alone m s = if_alone m s.is_open lost (nothing m) (fine m lost refl) (fine m (nothing m) refl)
  where
    lost : MasterEffect
    lost = record { refusal = None; moves = AtSide s.name Lose ∷ AtSide s.name SendHello ∷ []; events = rescinds m s.offers ++ loses m s.name s.booked ++ events_to_all m.registers.frameworks (Failure s.name); opens = []; closes = []; registers = without_filters_on s.name m.registers }

hung_by : (m : Master) (stream : Numbered) (o : Option Framework) → RefusesAlone m (hung_up_by m stream o)
hung_by m stream None = fine m (nothing m) refl
hung_by m stream (Some f) = fine m (hung_up_by m stream (Some f)) refl

pub hang_ups_alone : (m : Master) (stream : Numbered) → RefusesAlone m (hung_up m stream)
hang_ups_alone m stream = hung_by m stream (find (λ f. is_stream stream f.stream) m.registers.frameworks)

pub ticks_alone : (m : Master) (now : ℕ) → RefusesAlone m (ticked m now)
ticks_alone m now = fine m (ticked m now) refl

pub rounds_alone : (ws : List RoleWeight) (m : Master) → RefusesAlone m (allocated ws m)
rounds_alone ws m = fine m (allocated ws m) refl
