use Rattle.std.proofs.Common.{take}
use Rattle.std.specs.List.{AllByRecursion}
use Rattle.keep_store.specs.Kept.{IsPlaced}
use Rattle.keep_store.proofs.seen.are_placed.Given as goal

abbrev pub invariant-loop-row : goal.invariant-loop-row
invariant-loop-row l = AllByRecursion IsPlaced (take l.row-index l.rows)
