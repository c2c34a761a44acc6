use Rattle.std.proofs.Common.{take, All}
use Rattle.desk_core.specs.Receipts.{StandsIn}
use Rattle.desk_core.proofs.desk.Desk.accounts_all.Given as goal

abbrev pub invariant-loop-slip : goal.invariant-loop-slip
invariant-loop-slip g l = All (λ p. StandsIn (g.C.Recorded.history l.self.recorded) l.self.seats p) (take l.slip-index l.slips)
