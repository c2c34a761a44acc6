use Rattle.std.proofs.Common.{take}
use Rattle.keep_tables.proofs.TotalLemmas.{AreRead}
use Rattle.keep_tables.proofs.rows.totals.total_of.Given as goal

abbrev pub invariant-loop-row : goal.invariant-loop-row
invariant-loop-row l = AreRead (take l.row-index l.rows) l.total
