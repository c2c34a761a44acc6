-- What a tick sends to agents.
use Rattle.std.specs.Prelude.{ℕ, suc, if◌then◌else◌, List, [], ◌∷◌, Option, Some, None}
use Rattle.messages.specs.declared.mail.Command.{Command}
use Rattle.messages.specs.declared.mail.MasterMail.{MasterMail}
use Rattle.messages.specs.declared.mail.MasterMail.TheVariants.{Hello, Issued}
use Rattle.messages.specs.declared.mail.ToAgent.{ToAgent}
use Rattle.cluster_model.specs.Sides.{Side}

abbrev pub oldest_of : Side → List Command → Option MasterMail
oldest_of s [] = None
oldest_of s (command ∷ later) = Some (Issued s.session (suc s.known) command)

-- a Hello where no session is open, else the oldest command that isn't known to be applied, if any
abbrev pub again_of : ℕ → Side → Option MasterMail
again_of run s = if s.is_open then oldest_of s s.waiting else Some (Hello run s.closed)

abbrev pub addressed : List ℕ → Option MasterMail → List ToAgent
addressed agent None = []
addressed agent (Some mail) = record { agent = agent; mail = mail } ∷ []

abbrev pub mails_at_tick : ℕ → Side → List ToAgent
mails_at_tick run s = addressed s.name (again_of run s)
