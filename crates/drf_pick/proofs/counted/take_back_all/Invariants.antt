use Rattle.std.proofs.Common.{◌≡◌, ◌++◌, List, drop}
use Rattle.drf_pick.specs.Allocations.{Allocation, Client}
use Rattle.drf_pick.specs.Shown.{ClientsOnce, TallyShows}
use Rattle.drf_pick.proofs.counted.take_back_all.Given as goal

abbrev pub invariant-loop-allocation : goal.invariant-loop-allocation
invariant-loop-allocation l = record {
  shown : (cs : List Client) (rest : List Allocation) → ClientsOnce cs → TallyShows (rest ++ l.allocations) cs l.fn.shares → TallyShows (rest ++ drop l.allocation-index l.allocations) cs l.shares;
  totals : l.shares.totals ≡ l.fn.shares.totals;
}
