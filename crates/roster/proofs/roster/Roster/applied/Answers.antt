use Rattle.std.proofs.Common.{sym}
use Rattle.roster.proofs.roster.Roster.applied.Goals as goal

pub returns-clause-refused : goal.returns-clause-refused
returns-clause-refused c = rw (sym c.self.view_is) c.applied_in.ensures.refused
