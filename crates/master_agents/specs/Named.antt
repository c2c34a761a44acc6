-- What the master does at the agent of a name.
use Rattle.std.specs.Prelude.{ℕ, List}
use Rattle.messages.specs.declared.mail.AgentMail.{AgentMail}
use Rattle.cluster_model.specs.Masters.{MasterEffect, Master, nothing}
use Rattle.cluster_model.specs.Mails.{agent_lost, mail_effect}
use Rattle.master_agents.specs.Looks.{value_of}

-- what is done when the agent of this name is lost; nothing where it isn't configured
abbrev pub lost_by : Master → List ℕ → MasterEffect
lost_by m agent = value_of agent (agent_lost m) (nothing m) m.sides

-- what goes with a mail of the agent of this name; nothing where it isn't configured
abbrev pub mailed_by : Master → List ℕ → AgentMail → MasterEffect
mailed_by m agent mail = value_of agent (λ s. mail_effect m s mail) (nothing m) m.sides
