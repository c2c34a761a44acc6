-- Sessions of one agent: which mails are of the open one, and what opens, closes and counts do.
use Rattle.std.specs.Prelude.{ℕ, suc, ◌+◌, ◌-◌, Bool, ◌&&◌, ◌==◌, nat_lt, nat_le, if◌then◌else◌, List, [], ◌∷◌, ◌++◌, length, take, drop, Option, Some, None, Result, Ok, Err}
use Rattle.messages.specs.declared.mail.Command.{Command}
use Rattle.messages.specs.declared.refusal.MasterRefusal.{MasterRefusal}
use Rattle.messages.specs.declared.refusal.MasterRefusal.TheVariants.{OtherRun}
use Rattle.cluster_model.specs.Ids.{last_number}
use Rattle.cluster_model.specs.Sides.{Side, opened, last_session, counts}
use Rattle.cluster_model.specs.Mails.{judged_session}

-- why a Report with the master of some run is refused, if it is
abbrev pub judged_report : ℕ → Side → ℕ → ℕ → Option MasterRefusal
judged_report run s session number =
    if number == run then judged_session s session None else Some OtherRun

-- a Report opens a session: it is of this run, and above the open session or above every closed one
abbrev pub report_opens : ℕ → Side → ℕ → ℕ → Bool
report_opens run s session number = number == run && nat_lt (last_session s) session

-- a refusal, or whether a session is opened
abbrev pub answered : Option MasterRefusal → Bool → Result Bool MasterRefusal
answered None opens = Ok opens
answered (Some refusal) opens = Err refusal

abbrev pub reported : ℕ → Side → ℕ → ℕ → Result Bool MasterRefusal
reported run s session number =
    answered (judged_report run s session number) (report_opens run s session number)

-- (what the agent owns, and its tasks, are kept elsewhere)
abbrev pub after_report : ℕ → ℕ → ℕ → Side → Side
after_report run session number s =
    if report_opens run s session number then opened s session [] [] else s

-- the number that the next command gets, where a session is open
abbrev pub issued_number : Side → Option ℕ
issued_number s = if s.is_open then Some (suc (s.known + length s.waiting)) else None

abbrev pub with_command : Command → Side → Side
with_command command s = if s.is_open then record s { waiting = s.waiting ++ command ∷ [] } else s

-- a session is open, and its last command has the last number
abbrev pub is_spent : Side → Bool
is_spent s = s.is_open && nat_le last_number (s.known + length s.waiting)

-- the commands that are newly known to be applied
abbrev pub newly : ℕ → ℕ → Side → List Command
newly session count s = if counts s session count then take (count - s.known) s.waiting else []

abbrev pub after_applied : ℕ → ℕ → Side → Side
after_applied session count s =
    if counts s session count then record s
    { waiting = drop (count - s.known) s.waiting; known = count } else s

-- the oldest command that isn't known to be applied, with its number
abbrev pub oldest : ℕ → List Command → Option (ℕ × Command)
oldest known [] = None
oldest known (command ∷ later) = Some (suc known, command)
