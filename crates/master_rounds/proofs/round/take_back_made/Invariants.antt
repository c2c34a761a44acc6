use Rattle.std.proofs.Common.{◌≡◌, ◌++◌, List, drop, map}
use Rattle.drf_pick.specs.declared.counted.Allocation.{Allocation}
use Rattle.drf_pick.specs.declared.holder.Client.{Client}
use Rattle.drf_pick.specs.Shown.{ClientsOnce, TallyShows}
use Rattle.master_rounds.specs.Visits.{allocation_by}
use Rattle.master_rounds.proofs.round.take_back_made.Given as goal

abbrev pub invariant-loop-offer : goal.invariant-loop-offer
invariant-loop-offer l = record {
  shown : (cs : List Client) (rest : List Allocation) → ClientsOnce cs → TallyShows (rest ++ map allocation_by l.made) cs l.fn.shares → TallyShows (rest ++ map allocation_by (drop l.offer-index l.made)) cs l.shares;
  totals : l.shares.totals ≡ l.fn.shares.totals;
}
