-- Launches on an agent.
use Rattle.std.specs.Prelude.{◌≡◌, ℕ, true, false, List, fold}
use Rattle.std.specs.List.{AllByRecursion}
use Rattle.names_core.specs.Ids.{Numbered}
use Rattle.messages.specs.declared.task.Booked.{Booked}
use Rattle.messages.specs.declared.mail.Command.TheVariants.{Launch}
use Rattle.master_agents.specs.Changes.{with_task}
use Rattle.cluster_model.specs.Fits.{KeysRise}
use Rattle.cluster_model.specs.Sides.{Side, job_rows, unended}
use Rattle.master_agents.specs.Looks.{at_name, value_of}
use Rattle.master_agents.specs.Taking.{fits, is_booked}
use Rattle.master_state.specs.declared.state.State.{State}
use Rattle.master_state.specs.States.{ordered}

-- a task is booked on an agent, and its key is the last one
abbrev pub booked_on : List ℕ → Booked → State → State
booked_on agent b s =
    record s { last_key = b.job.key.n; sides = at_name agent (with_task b) s.sides }

abbrev pub launched_one : List ℕ → List Numbered → State → Booked → State
launched_one agent ids s b = ordered agent (Launch b.job ids) (booked_on agent b s)

abbrev pub launched_all : List ℕ → List Numbered → List Booked → State → State
launched_all agent ids bs s = fold (launched_one agent ids) s bs

-- ---- for private clauses

-- beside what is taken of the agent of a name its total has room for what these tasks use
abbrev pub HasRoomFor : List ℕ → List Booked → List Side → Type 0
HasRoomFor agent bs ss = value_of agent (fits (job_rows (unended bs))) false ss ≡ true

-- the launch keys of these tasks rise, and no booked task has one of them
pub record AreNew (bs : List Booked) (ss : List Side) : Type 0 where
  pub rising : KeysRise bs
  pub unbooked : AllByRecursion (λ b. is_booked b.job.key ss ≡ false) bs
