-- Which refusal is returned.
use Rattle.std.specs.Prelude.{◌≡◌, Bool, true, false, Option, Some}
use Rattle.messages.specs.declared.refusal.MasterRefusal.{MasterRefusal}
use Rattle.roster.specs.declared.fault.RosterFault.{RosterFault}
use Rattle.roster.specs.declared.fault.RosterFault.TheVariants.{Refused, Spent, OutOfMemory}

-- a command isn't issued: its session's numbers are spent,
-- or one is left and memory was refused
abbrev pub IsIssueRefusal : Bool → RosterFault → Type 0
IsIssueRefusal spent (Refused refusal) = ⊥
IsIssueRefusal spent Spent = spent ≡ true
IsIssueRefusal spent OutOfMemory = spent ≡ false

-- a count isn't recorded: the mail is refused, or memory was refused
abbrev pub IsAppliedRefusal : Option MasterRefusal → RosterFault → Type 0
IsAppliedRefusal due (Refused refusal) = due ≡ Some refusal
IsAppliedRefusal due Spent = ⊥
IsAppliedRefusal due OutOfMemory = Unit {0}
