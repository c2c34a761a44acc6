use Rattle.std.proofs.Common.{◌≡◌, drop, Ok, false}
use Rattle.roster.specs.Sessions.{reported}
use Rattle.master_agents.specs.Looks.{value_of}
use Rattle.master_agents.proofs.by_name.report_of.Given as goal

abbrev pub invariant-loop-entry : goal.invariant-loop-entry
invariant-loop-entry l = value_of l.name (λ s. reported l.run s l.session l.number) (Ok false) (drop l.entry-index l.entries) ≡ value_of l.name (λ s. reported l.run s l.session l.number) (Ok false) l.entries
