-- What the master does at each call of a framework (Mesos scheduler HTTP API, Calls).
use Rattle.std.specs.Prelude.{ℕ, suc, ◌+◌, Bool, true, false, not, ◌&&◌, ◌||◌, ◌==◌, nat_lt, nat_le, if◌then◌else◌, List, [], ◌∷◌, ◌++◌, length, map, filter, flat_map, fold, Option, Some, None, bytes_eq}
use Rattle.std.specs.List.{list_any, find}
use Rattle.names_core.specs.Ids.{Numbered, same}
use Rattle.names_core.specs.declared.state.TaskState.{TaskState}
use Rattle.names_core.specs.declared.state.TaskState.TheVariants.{Lost, Error}
use Rattle.quantity.specs.declared.rows.Row.{Row}
use Rattle.quantity.specs.Rows.{covers, plus_rows, rest_of}
use Rattle.messages.specs.declared.task.Job.{Job}
use Rattle.messages.specs.declared.call.Call.{Call}
use Rattle.messages.specs.declared.call.Call.TheVariants.{Subscribe, Teardown, Accept, Decline, Revive, Suppress, Kill, Acknowledge, Reconcile}
use Rattle.messages.specs.declared.call.TaskInfo.{TaskInfo}
use Rattle.messages.specs.declared.call.ReconciledTask.{ReconciledTask}
use Rattle.messages.specs.declared.refusal.MasterRefusal.TheVariants.{NotSubscribed, WrongStream, NoSuchFramework, LimitExceeded}
use Rattle.cluster_model.specs.Ids.{following, each_once, is_empty, last_number}
use Rattle.cluster_model.specs.Sides.{Side, LaunchFrom, SendKill, SendAck, SendEnd, is_named, is_good, used_offers, offer_rows, just_booked}
use Rattle.cluster_model.specs.Events.{MadeOffer, StreamEvent, Subscribed, update_event, failover_error, removal_error}
use Rattle.cluster_model.specs.Masters.{Master, Registers, Framework, MasterEffect, Move, AtSide, TearDownAll, Placed, nothing, refused, saying, moving, keeping, framework_of, is_torn, with_framework, stream_of, on_stream, all_booked, put_placed, is_task_of, held_among, held, is_of, withdraws, add_filter, side_of, has_numbers, may_have_numbers, has_returned}

-- SUBSCRIBE

abbrev pub frameworks_limit : ℕ
frameworks_limit = 4096

abbrev pub new_stream : Master → Numbered
new_stream m = record { run = m.run.number; n = suc m.registers.last_stream }

abbrev pub to_list : Option Numbered → List Numbered
to_list None = []
to_list (Some id) = id ∷ []

-- the framework as it is once subscribed
abbrev pub subscriber : Master → Numbered → List ℕ → Framework
subscriber m id role =
    record {
      id = id;
      role = role;
      stream = Some (new_stream m);
      suppressed = false;
      last_beat = m.registers.now;
      filters = [];
    }

-- a framework is subscribed on a new stream; an open one of it closes, and its offers are withdrawn
abbrev pub subscribed : Master → Registers → Numbered → List ℕ → Option Framework → MasterEffect
subscribed m r id role known = record {
  refusal = None;
  moves = withdraws (is_of id) m;
  events =
      on_stream (stream_of known) failover_error ++ on_stream (Some (new_stream m)) (Subscribed id);
  opens = new_stream m ∷ [];
  closes = to_list (stream_of known);
  registers = record (with_framework r (subscriber m id role)) { last_stream = suc r.last_stream };
}

-- without id: the next one is assigned
abbrev pub on_subscribe : Master → List ℕ → MasterEffect
on_subscribe m role =
    if nat_le frameworks_limit (length m.registers.frameworks)
    || nat_le last_number m.registers.last_framework
    || nat_le last_number m.registers.last_stream
    then refused m LimitExceeded
    else subscribed m (record m.registers { last_framework = suc m.registers.last_framework })
    (record { run = m.run.number; n = suc m.registers.last_framework }) role None

-- a framework that was torn down gets a stream with an error alone
abbrev pub removed : Master → MasterEffect
removed m = record {
  refusal = None;
  moves = [];
  events = on_stream (Some (new_stream m)) removal_error;
  opens = new_stream m ∷ [];
  closes = new_stream m ∷ [];
  registers = record m.registers { last_stream = suc m.registers.last_stream };
}

abbrev pub resubscribed : Master → Numbered → List ℕ → Option Framework → MasterEffect
resubscribed m id role None =
    if nat_le frameworks_limit (length m.registers.frameworks) then refused m LimitExceeded
    else subscribed m m.registers id role None
resubscribed m id role (Some f) = subscribed m m.registers id role (Some f)

-- an id of a later run, or of this one and not yet assigned
abbrev pub is_unassigned : Master → Numbered → Bool
is_unassigned m id =
    nat_lt m.run.number id.run || (id.run == m.run.number && nat_lt m.registers.last_framework id.n)

-- with an id
abbrev pub on_resubscribe : Master → Numbered → List ℕ → MasterEffect
on_resubscribe m id role =
    if is_unassigned m id then refused m NoSuchFramework
    else (if nat_le last_number m.registers.last_stream then refused m LimitExceeded
    else (if is_torn m id then removed m
    else resubscribed m id role (framework_of m id)))

-- TEARDOWN

abbrev pub has_tasks_of : Numbered → Side → Bool
has_tasks_of framework s = list_any (λ b. same b.job.framework framework) s.booked

abbrev pub sides_with_tasks : Master → Numbered → List Side
sides_with_tasks m framework = filter (has_tasks_of framework) m.sides

abbrev pub on_teardown : Master → Framework → MasterEffect
on_teardown m f =
    if list_any (λ s. not (has_numbers 1 s)) (sides_with_tasks m f.id) then refused m LimitExceeded
    else record {
      refusal = None;
      moves =
          withdraws (is_of f.id) m ++ TearDownAll f.id
          ∷ map (λ s. AtSide s.name (SendEnd f.id)) (sides_with_tasks m f.id);
      events = [];
      opens = [];
      closes = to_list f.stream;
      registers = with_framework m.registers (record f { stream = None });
    }

-- answers on a framework's stream

abbrev pub answers : Framework → List ℕ → TaskState → Option (List ℕ) → List StreamEvent
answers f task state agent = on_stream f.stream (update_event task state agent None)

-- the state of a held task, with its agent
abbrev pub answers_held : Framework → Placed → List StreamEvent
answers_held f p = answers f p.booked.job.name p.booked.state (Some p.agent)

-- ACCEPT

abbrev pub tasks_limit : ℕ
tasks_limit = 65536

-- good offers: their agent, and their sum
pub record Given : Type 0 where
  pub agent : List ℕ
  pub budget : List Row

-- the agent on which the offers are good
abbrev pub good_side : Master → Numbered → List Numbered → Option Side
good_side m framework ids = find (λ s. is_good s framework ids) m.sides

abbrev pub given_by : Numbered → List Numbered → Option Side → Option Given
given_by framework ids None = None
given_by framework ids (Some s) =
    Some (record { agent = s.name; budget = offer_rows (used_offers s framework ids) })

-- how far an ACCEPT's tasks have come
pub record Accepting : Type 0 where
  pub booked : List Placed
  pub jobs : List Job  -- those that are launched
  pub used : List Row
  pub next : Numbered  -- the next launch key
  pub events : List StreamEvent

-- the task is for the offers' agent, asks for something, and the rest covers it
abbrev pub is_covered : Given → List Row → TaskInfo → Bool
is_covered g used task =
    bytes_eq task.agent g.agent && not (is_empty task.resources)
    && covers g.budget (task.resources ++ used)

abbrev pub job_of : Framework → Numbered → TaskInfo → Job
job_of f key task =
    record { key = key; framework = f.id; name = task.name; resources = task.resources }

abbrev pub launching : Framework → Given → Accepting → TaskInfo → Accepting
launching f g x task = record {
  booked = x.booked ++ record { agent = g.agent; booked = just_booked (job_of f x.next task) } ∷ [];
  jobs = x.jobs ++ job_of f x.next task ∷ [];
  used = task.resources ++ x.used;
  next = following x.next;
  events = x.events;
}

abbrev pub answering : Accepting → List StreamEvent → Accepting
answering x events =
    record {
      booked = x.booked;
      jobs = x.jobs;
      used = x.used;
      next = x.next;
      events = x.events ++ events;
    }

abbrev pub accepts_as : Framework → Option Given → Accepting → TaskInfo → Option Placed → Accepting
accepts_as f given x task (Some p) = answering x (answers_held f p)
accepts_as f None x task None = answering x (answers f task.name Lost (Some task.agent))
accepts_as f (Some g) x task None =
    if is_covered g x.used task then launching f g x task
    else answering x (answers f task.name Error (Some task.agent))

abbrev pub accepts_one : Framework → Option Given → Accepting → TaskInfo → Accepting
accepts_one f given x task = accepts_as f given x task (held_among x.booked f.id task.name)

abbrev pub accepts_all : Master → Framework → Option Given → List TaskInfo → Accepting
accepts_all m f given tasks =
    fold (accepts_one f given)
    (record { booked = all_booked m; jobs = []; used = []; next = m.run.next_key; events = [] })
    tasks

-- booked tasks, launch numbers or the command numbers of the offers' agent would pass their limits,
-- counted by the tasks asked for
abbrev pub passes_limits : Master → ℕ → Option Side → Bool
passes_limits m count good =
    (nat_lt 0 count && nat_lt tasks_limit (length (all_booked m) + count))
    || nat_lt (suc last_number) (m.run.next_key.n + count) || not (may_have_numbers count good)

-- the sum of the used offers less what is launched
abbrev pub rest_after : Given → Accepting → List Row
rest_after g x = rest_of (plus_rows [] g.budget) x.used

abbrev pub accepted_as : Master → Framework → List Numbered → ℕ → Option Given → Accepting → MasterEffect
accepted_as m f ids seconds None x =
    record (saying m x.events) { moves = withdraws (is_named f.id ids) m }
accepted_as m f ids seconds (Some g) x = record (saying m x.events) {
  moves = AtSide g.agent (LaunchFrom f.id ids x.jobs) ∷ [];
  registers =
      with_framework m.registers
      (record f {
        filters = add_filter m.registers.now seconds f.filters g.agent (rest_after g x);
      });
}

abbrev pub accepted_from : Master → List Numbered → List TaskInfo → ℕ → Framework → Option Given
    → MasterEffect
accepted_from m ids tasks seconds f given =
    accepted_as m f ids seconds given (accepts_all m f given tasks)

abbrev pub on_accept : Master → List Numbered → List TaskInfo → ℕ → Framework → MasterEffect
on_accept m ids tasks seconds f =
    let good = good_side m f.id ids in
    if passes_limits m (length tasks) good then refused m LimitExceeded
    else accepted_from m ids tasks seconds f (given_by f.id ids good)

-- DECLINE

abbrev pub own_offers_on : Numbered → Numbered → Side → List MadeOffer
own_offers_on framework id s =
    map (λ o. record { agent = s.name; offer = o })
    (filter (λ o. is_of framework o && same o.id id) s.offers)

-- the current offer of a framework with this id, if any
abbrev pub own_offers : Master → Numbered → Numbered → List MadeOffer
own_offers m framework id = flat_map (own_offers_on framework id) m.sides

abbrev pub on_decline : Master → List Numbered → ℕ → Framework → MasterEffect
on_decline m ids seconds f = record (moving m (withdraws (is_named f.id ids) m)) {
  registers = with_framework m.registers (record f {
    filters =
        fold (λ fs made. add_filter m.registers.now seconds fs made.agent made.offer.resources)
        f.filters (flat_map (own_offers m f.id) (each_once ids));
  });
}

-- REVIVE, SUPPRESS

abbrev pub on_revive : Master → Framework → MasterEffect
on_revive m f = keeping (with_framework m.registers (record f { suppressed = false; filters = [] }))

abbrev pub on_suppress : Master → Framework → MasterEffect
on_suppress m f = keeping (with_framework m.registers (record f { suppressed = true }))

-- KILL, ACKNOWLEDGE

-- a command to an agent
abbrev pub commanding : Master → Option Side → Move → MasterEffect
commanding m s order =
    if may_have_numbers 1 s then moving m (order ∷ []) else refused m LimitExceeded

abbrev pub on_kill : Master → List ℕ → Option (List ℕ) → Framework → Option Placed → MasterEffect
on_kill m task agent f None = saying m (answers f task Lost agent)
on_kill m task agent f (Some p) =
    if p.booked.ended then saying m (answers_held f p)
    else commanding m (side_of m p.agent) (AtSide p.agent (SendKill p.booked.job.key))

-- the update last received of the framework's task of this name and key on this agent
abbrev pub is_last_received : Framework → List ℕ → List ℕ → Numbered → ℕ → Placed → Bool
is_last_received f agent task key k p =
    same p.booked.job.key key && is_task_of f.id task p && bytes_eq p.agent agent
    && p.booked.received == suc k

abbrev pub on_acknowledge : Master → List ℕ → List ℕ → Numbered → ℕ → Framework → MasterEffect
on_acknowledge m agent task key k f =
    if list_any (is_last_received f agent task key k) (all_booked m)
    then commanding m (side_of m agent) (AtSide agent (SendAck key k))
    else nothing m

-- RECONCILE

abbrev pub is_live_of : Numbered → Placed → Bool
is_live_of framework p = same p.booked.job.framework framework && not p.booked.ended

-- an agent that may have the task hasn't returned in this run
abbrev pub is_awaited : Master → Option (List ℕ) → Bool
is_awaited m None = list_any (λ s. not (has_returned s)) m.sides
is_awaited m (Some agent) = list_any (λ s. bytes_eq s.name agent && not (has_returned s)) m.sides

abbrev pub reconciles_as : Master → Framework → ReconciledTask → Option Placed → List StreamEvent
reconciles_as m f asked (Some p) = answers_held f p
reconciles_as m f asked None =
    if is_awaited m asked.agent then [] else answers f asked.name Lost asked.agent

abbrev pub reconciles : Master → Framework → ReconciledTask → List StreamEvent
reconciles m f asked = reconciles_as m f asked (held m f.id asked.name)

abbrev pub on_reconcile : Master → List ReconciledTask → Framework → MasterEffect
on_reconcile m [] f =
    saying m (flat_map (answers_held f)
    (fold put_placed [] (filter (is_live_of f.id) (all_booked m))))
on_reconcile m (asked ∷ more) f = saying m (flat_map (reconciles m f) (asked ∷ more))

-- all calls

-- the stream of a call is the open one
abbrev pub is_stream : Numbered → Option Numbered → Bool
is_stream open_one None = false
is_stream open_one (Some stream) = same stream open_one

abbrev pub on_its_stream : Master → Option Numbered → Option Numbered → MasterEffect → MasterEffect
on_its_stream m stream None doing = refused m NotSubscribed
on_its_stream m stream (Some open_one) doing =
    if is_stream open_one stream then doing else refused m WrongStream

abbrev pub by_known : Master → Option Numbered → Option Framework → (Framework → MasterEffect) → MasterEffect
by_known m stream None doing = refused m NoSuchFramework
by_known m stream (Some f) doing =
    if is_torn m f.id then refused m NoSuchFramework else on_its_stream m stream f.stream (doing f)

-- a call of a framework that is known in this run and not torn down, on its open stream
abbrev pub by_framework : Master → Option Numbered → Numbered → (Framework → MasterEffect) → MasterEffect
by_framework m stream framework doing = by_known m stream (framework_of m framework) doing

abbrev pub call_effect : Master → Option Numbered → Call → MasterEffect
call_effect m stream (Subscribe None role) = on_subscribe m role
call_effect m stream (Subscribe (Some id) role) = on_resubscribe m id role
call_effect m stream (Teardown framework) = by_framework m stream framework (on_teardown m)
call_effect m stream (Accept framework offers tasks seconds) =
    by_framework m stream framework (on_accept m offers tasks seconds)
call_effect m stream (Decline framework offers seconds) =
    by_framework m stream framework (on_decline m offers seconds)
call_effect m stream (Revive framework) = by_framework m stream framework (on_revive m)
call_effect m stream (Suppress framework) = by_framework m stream framework (on_suppress m)
call_effect m stream (Kill framework task agent) =
    by_framework m stream framework (λ f. on_kill m task agent f (held m f.id task))
call_effect m stream (Acknowledge framework agent task uuid) =
    by_framework m stream framework (on_acknowledge m agent task uuid.key uuid.k)
call_effect m stream (Reconcile framework tasks) = by_framework m stream framework (on_reconcile m tasks)
