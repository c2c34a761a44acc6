-- A framework ends.
use Rattle.std.specs.Prelude.{ℕ, List, [], ◌∷◌, ◌++◌, fold, map}
use Rattle.names_core.specs.Ids.{Numbered}
use Rattle.messages.specs.declared.mail.Command.TheVariants.{EndFramework}
use Rattle.cluster_model.specs.Masters.{is_of}
use Rattle.master_state.specs.Frameworks.{changed, without_stream}
use Rattle.master_agents.specs.Own.{sides_with_tasks}
use Rattle.master_state.specs.declared.state.State.{State}
use Rattle.master_state.specs.States.{closed, ordered, without_offers}

abbrev pub ends_on : Numbered → State → List ℕ → State
ends_on framework s agent = ordered agent (EndFramework framework) s

-- without its offers, and torn down
abbrev pub torn : Numbered → State → State
torn framework s = record (without_offers (is_of framework) s) { torn = s.torn ++ framework ∷ [] }

abbrev pub streamless : Numbered → State → State
streamless framework s =
    record s { frameworks = map (changed without_stream framework) s.frameworks }

abbrev pub ended : Numbered → Numbered → State → State
ended framework stream s =
    closed stream
    (streamless framework
    (fold (ends_on framework) (torn framework s)
    (map (λ t. t.name) (sides_with_tasks framework s.sides))))
