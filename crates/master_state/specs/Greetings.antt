-- A Hello to an agent.
use Rattle.std.specs.Prelude.{ℕ, List, Option, Some, None}
use Rattle.messages.specs.declared.mail.MasterMail.TheVariants.{Hello}
use Rattle.messages.specs.declared.mail.ToAgent.{ToAgent}
use Rattle.master_agents.specs.Looks.{value_of}
use Rattle.master_state.specs.States.{State, sent}

abbrev pub hello : List ℕ → ℕ → ℕ → ToAgent
hello agent run dead = record { agent = agent; mail = Hello run dead }

abbrev pub greeted_as : List ℕ → Option ℕ → State → State
greeted_as agent None s = s
greeted_as agent (Some dead) s = sent (hello agent s.run dead) s

-- with the greatest session that is closed, where the agent is configured
abbrev pub greeted : List ℕ → State → State
greeted agent s = greeted_as agent (value_of agent (λ t. Some t.closed) None s.sides) s
