-- What the master does at one agent that is named, and the small steps of it.
use Rattle.std.specs.declared.alloc.AllocError.{AllocError}
use Rattle.std.specs.Prelude.{◌≡◌, ⊤, ℕ, ◌++◌, List, [], map, filter, flat_map, fold, Option, Result, Ok, Err}
use Rattle.names_core.specs.Ids.{Numbered}
use Rattle.messages.specs.declared.mail.AgentMail.{AgentMail}
use Rattle.messages.specs.declared.mail.Command.TheVariants.{EndFramework}
use Rattle.quantity.specs.declared.rows.Row.{Row}
use Rattle.messages.specs.declared.task.Booked.{Booked}
use Rattle.messages.specs.declared.refusal.MasterRefusal.{MasterRefusal}
use Rattle.messages.specs.declared.refusal.MasterRefusal.TheVariants.{OtherRun}
use Rattle.cluster_model.specs.Events.{StreamEvent, Failure}
use Rattle.cluster_model.specs.Masters.{clear_on, events_to_all}
use Rattle.cluster_model.specs.Mails.{receive_at, is_to_end}
use Rattle.cluster_model.specs.Sides.{lost}
use Rattle.master_agents.specs.Changes.{reporting}
use Rattle.master_agents.specs.Looks.{at_name, value_of}
use Rattle.master_agents.specs.Named.{mailed_by}
use Rattle.master_state.specs.Greetings.{greeted}
use Rattle.master_state.specs.declared.state.State.{State}
use Rattle.master_state.specs.States.{ordered}
use Rattle.master_state.specs.Works.{Work, done, master_of, work_of}
use Rattle.master_core.specs.Sending.{loss_of, rescind_of}

-- what a master holds, once the side of an agent has received a mail
abbrev pub having_received : List ℕ → AgentMail → Work → Work
having_received agent mail w =
    record w { moved = record w.moved { sides = receive_at agent w.moved.run mail w.moved.sides } }

-- an agent's mail was received, with what goes with it, and why it is refused is returned; where
-- memory was refused nothing is claimed
abbrev pub Answered : Result (Option MasterRefusal) AllocError → State → State → List ℕ → AgentMail
    → Type 0
Answered (Ok refusal) before after agent mail =
    (refusal ≡ (mailed_by (master_of before) agent mail).refusal)
    × (work_of after ≡ done (mailed_by (master_of before) agent mail)
    (having_received agent mail (work_of before)))
Answered (Err e) before after agent mail = ⊤

-- small steps

abbrev pub with_more_events : List StreamEvent → State → State
with_more_events ts s = record s { outs = record s.outs { events = s.outs.events ++ ts } }

abbrev pub without_filters : List ℕ → State → State
without_filters agent s = record s { frameworks = map (clear_on agent) s.frameworks }

abbrev pub with_lost : List ℕ → State → State
with_lost agent s = record s { sides = at_name agent lost s.sides }

-- the events of an agent's offers and of its booked tasks that aren't reported
abbrev pub rescinded : List ℕ → State → State
rescinded agent s =
    with_more_events
    (flat_map (rescind_of s.frameworks) (value_of agent (λ t. t.offers) [] s.sides)) s

abbrev pub with_losses : List ℕ → List Booked → State → State
with_losses agent reported s =
    with_more_events (flat_map (loss_of s.frameworks agent reported)
    (value_of agent (λ t. t.booked) [] s.sides)) s

abbrev pub with_failures : List ℕ → State → State
with_failures agent s = with_more_events (events_to_all s.frameworks (Failure agent)) s

abbrev pub left : List ℕ → State → State
left agent s =
    greeted agent
    (with_lost agent
    (without_filters agent (with_failures agent (with_losses agent [] (rescinded agent s)))))

-- a Hello goes with every refusal but that of another run
abbrev pub turned_away : List ℕ → MasterRefusal → State → State
turned_away agent OtherRun s = s
turned_away agent refusal s = greeted agent s

abbrev pub with_report : List ℕ → ℕ → ℕ → List Booked → List Row → State → State
with_report agent session number tasks total s =
    record s { sides = at_name agent (reporting s.run session number tasks total) s.sides }

-- the frameworks that were torn down and have reported tasks
abbrev pub ends_of : List Booked → State → List Numbered
ends_of tasks s = map (λ f. f.id) (filter (is_to_end (master_of s) tasks) s.frameworks)

abbrev pub ending : List ℕ → State → Numbered → State
ending agent s framework = ordered agent (EndFramework framework) s

abbrev pub session_opened : List ℕ → ℕ → ℕ → List Booked → List Row → State → State
session_opened agent session number tasks total s =
    fold (ending agent) (with_report agent session number tasks total
    (without_filters agent (with_losses agent tasks (rescinded agent s)))) (ends_of tasks s)
