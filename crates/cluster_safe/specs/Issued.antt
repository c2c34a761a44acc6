-- All commands that were ever issued to an agent in a session.
use Rattle.std.specs.Prelude.{◌≡◌, ℕ, suc, ◌≤◌, true, List, slice_get, Some, ◌+◌, length}
use Rattle.std.specs.List.{AllByRecursion as Each}
use Rattle.messages.specs.declared.mail.Command.{Command}
use Rattle.messages.specs.declared.mail.MasterMail.{MasterMail}
use Rattle.messages.specs.declared.mail.MasterMail.TheVariants.{Issued}
use Rattle.stream_core.specs.Links.{AreIssued, IsSent}
use Rattle.cluster_model.specs.Channels.{Channel, World}

-- these are all commands that were ever issued to an agent in a session: each mail of the session
-- that was ever sent to it has the list's command of the mail's number, counted from 1, and each
-- command of the list was sent under its number
pub record AreAllIssued (mails : List MasterMail) (session : ℕ) (all : List Command) : Type 0 where
  pub numbered : (place number : ℕ) (command : Command)
      → slice_get mails place ≡ Some (Issued session number command)
      → IsSent all (number, command)
  pub sent : (n : ℕ) (command : Command) → slice_get all n ≡ Some command
      → (place : ℕ) × (slice_get mails place ≡ Some (Issued session (suc n) command))

-- the agent's open session: all commands ever issued in it, and the count of those known to be
-- applied. The side's queue, like `roster`'s, refines them: it forgets what is known to be applied.
-- The next command's number is one more than all of them, and the agent has applied a beginning
pub record HasIssued (c : Channel) : Type 0 where
  pub all : List Command
  pub issued : AreAllIssued c.to_agent c.side.session all
  pub queue : AreIssued all (record { waiting = c.side.waiting; known = c.side.known })
  pub next : c.side.known + length c.side.waiting ≡ length all
  pub applied : c.agent.in_session ≡ true → c.agent.durable.session ≡ c.side.session
      → c.agent.applied ≤ length all

abbrev pub AllIssued : World → Type 0
AllIssued w = Each (λ (c : Channel). c.side.is_open ≡ true → HasIssued c) w.channels

-- of two mails to an agent with one session and one number, also in a session that is closed, both
-- have one command
abbrev pub NumbersNameOne : Channel → Type 0
NumbersNameOne c =
    (place other session number : ℕ) (command second : Command)
    → slice_get c.to_agent place ≡ Some (Issued session number command)
    → slice_get c.to_agent other ≡ Some (Issued session number second)
    → command ≡ second
