use Rattle.std.proofs.Common.{◌≡◌, drop, fold}
use Rattle.drf_pick.specs.Allocations.{all_rows, allocated}
use Rattle.drf_pick.specs.Shares.{CanHold}
use Rattle.drf_pick.proofs.counted.give_all.Given as goal

abbrev pub invariant-loop-allocation : goal.invariant-loop-allocation
invariant-loop-allocation l = record {
  given : fold allocated l.shares (drop l.allocation-index l.allocations) ≡ fold allocated l.fn.shares l.allocations;
  room : CanHold (all_rows (drop l.allocation-index l.allocations)) l.shares;
}
