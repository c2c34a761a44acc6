-- What ACCEPT does, task by task.
use Rattle.std.specs.Prelude.{ℕ, suc, ◌+◌, Bool, not, ◌&&◌, ◌||◌, nat_lt, if◌then◌else◌, List, [], ◌∷◌, ◌++◌, length, map, fold, Option, Some, None, option_map, bytes_eq}
use Rattle.names_core.specs.Ids.{Numbered}
use Rattle.names_core.specs.declared.state.TaskState.TheVariants.{Lost, Error}
use Rattle.quantity.specs.declared.rows.Row.{Row}
use Rattle.quantity.specs.Rows.{covers, rest_of}
use Rattle.messages.specs.declared.task.Job.{Job}
use Rattle.messages.specs.declared.task.Booked.{Booked}
use Rattle.messages.specs.declared.call.TaskInfo.{TaskInfo}
use Rattle.cluster_model.specs.Ids.{is_empty, last_number}
use Rattle.cluster_model.specs.Sides.{Side, is_named, just_booked, without_used}
use Rattle.cluster_model.specs.Masters.{Placed, held_among, may_have_numbers}
use Rattle.cluster_model.specs.Calls.{tasks_limit}
use Rattle.master_state.specs.Frameworks.{changed, with_filter}
use Rattle.master_calls.specs.Holding.{first_at}
use Rattle.master_agents.specs.Looks.{all_placed, at_name}
use Rattle.master_agents.specs.declared.own.GoodOffers.{GoodOffers}
use Rattle.master_state.specs.declared.state.State.{State}
use Rattle.master_state.specs.States.{task_state_sent, without_offers}
use Rattle.master_calls.specs.Launches.{AreNew, HasRoomFor, launched_all}
pub use Rattle.master_calls.specs.declared.accepting.take.Caller.{Caller}
pub use Rattle.master_calls.specs.declared.accepting.take.HeldTask.{HeldTask}
pub use Rattle.master_calls.specs.declared.accepting.take.Progress.{Progress}

-- held tasks

abbrev pub held_task : Placed → HeldTask
held_task p = record { name = p.booked.job.name; agent = p.agent; state = p.booked.state }

abbrev pub sends_held : Numbered → HeldTask → State → State
sends_held stream held s = task_state_sent stream held.name held.state (Some held.agent) s

-- the booked task of a framework with this name, or the one that was launched on an agent before
abbrev pub held_so : Numbered → List ℕ → List ℕ → List Booked → State → Option HeldTask
held_so framework name agent launched s =
    option_map held_task (fold (first_at framework name agent)
    (held_among (all_placed s.sides) framework name) launched)

-- offers that aren't good

abbrev pub loses_as : Caller → State → TaskInfo → Option HeldTask → State
loses_as caller s task (Some held) = sends_held caller.stream held s
loses_as caller s task None = task_state_sent caller.stream task.name Lost (Some task.agent) s

abbrev pub loses_one : Caller → State → TaskInfo → State
loses_one caller s task =
    loses_as caller s task (held_so caller.framework task.name task.agent [] s)

abbrev pub accepted_none : Caller → List Numbered → List TaskInfo → State → State
accepted_none caller ids tasks s =
    without_offers (is_named caller.framework ids) (fold (loses_one caller) s tasks)

-- good offers

-- the master, and how far the ACCEPT has come
pub record Bench : Type 0 where
  pub state : State
  pub progress : Progress

abbrev pub bench : State → Progress → Bench
bench state progress = record { state = state; progress = progress }

abbrev pub is_covered : List ℕ → List Row → TaskInfo → Bool
is_covered agent rest task =
    bytes_eq task.agent agent && not (is_empty task.resources) && covers rest task.resources

abbrev pub new_job : Numbered → Numbered → TaskInfo → Job
new_job framework key task =
    record { key = key; framework = framework; name = task.name; resources = task.resources }

abbrev pub new_task : Numbered → Numbered → TaskInfo → Booked
new_task framework key task = just_booked (new_job framework key task)

-- a task is launched under the next key, and less is left
abbrev pub launches : ℕ → Numbered → TaskInfo → Progress → Progress
launches run framework task p = record {
  launched = p.launched ++ new_task framework (record { run = run; n = suc p.last_key }) task ∷ [];
  rest = rest_of p.rest task.resources;
  last_key = suc p.last_key;
}

abbrev pub takes_as : Caller → List ℕ → Bench → TaskInfo → Option HeldTask → Bench
takes_as caller agent b task (Some held) = bench (sends_held caller.stream held b.state) b.progress
takes_as caller agent b task None =
    if is_covered agent b.progress.rest task
    then bench b.state (launches b.state.run caller.framework task b.progress)
    else bench (task_state_sent caller.stream task.name Error (Some task.agent) b.state) b.progress

abbrev pub takes_one : Caller → List ℕ → Bench → TaskInfo → Bench
takes_one caller agent b task =
    takes_as caller agent b task
    (held_so caller.framework task.name agent b.progress.launched b.state)

abbrev pub no_progress : List Row → ℕ → Progress
no_progress sum last_key = record { launched = []; rest = sum; last_key = last_key }

-- all tasks, from good offers
abbrev pub takes_all : Caller → GoodOffers → List TaskInfo → State → Bench
takes_all caller good tasks s =
    fold (takes_one caller good.agent) (bench s (no_progress good.sum s.last_key)) tasks

abbrev pub without_used_on : List ℕ → Numbered → List Numbered → State → State
without_used_on agent framework ids s =
    record s { sides = at_name agent (λ t. without_used t framework ids) s.sides }

abbrev pub refusing_on : Numbered → ℕ → List ℕ → List Row → State → State
refusing_on framework seconds agent rest s =
    record s {
      frameworks = map (changed (with_filter s.moment seconds agent rest) framework)
          s.frameworks;
    }

-- what was taken is launched, and the rest is refused
abbrev pub accepted_so : Caller → List ℕ → List Numbered → ℕ → Bench → State
accepted_so caller agent ids seconds b =
    refusing_on caller.framework seconds agent b.progress.rest
    (launched_all agent ids b.progress.launched
    (without_used_on agent caller.framework ids b.state))

abbrev pub accepted_good : Caller → GoodOffers → List Numbered → List TaskInfo → ℕ → State → State
accepted_good caller good ids tasks seconds s =
    accepted_so caller good.agent ids seconds (takes_all caller good tasks s)

abbrev pub accepted_as : Caller → List Numbered → List TaskInfo → ℕ → State → Option GoodOffers
    → State
accepted_as caller ids tasks seconds s None = accepted_none caller ids tasks s
accepted_as caller ids tasks seconds s (Some good) = accepted_good caller good ids tasks seconds s

-- limits

abbrev pub passes_limits : ℕ → Option Side → State → Bool
passes_limits count good s =
    (nat_lt 0 count && nat_lt tasks_limit (length (all_placed s.sides) + count))
    || nat_lt last_number (s.last_key + count) || not (may_have_numbers count good)

-- ---- for private clauses

-- once the offers of these ids are withdrawn, the agent has room for what is launched from them,
-- and no booked task has one of its launch keys
abbrev pub CanLaunch : Caller → List ℕ → List Numbered → Bench → Type 0
CanLaunch caller agent ids b =
    HasRoomFor agent b.progress.launched (without_used_on agent caller.framework ids b.state).sides
    × AreNew b.progress.launched (without_used_on agent caller.framework ids b.state).sides
