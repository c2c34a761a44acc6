use Rattle.std.proofs.Common.{◌≡◌, drop}
use Rattle.std.specs.List.{list_any}
use Rattle.cluster_model.specs.Rounds.{refuses}
use Rattle.master_rounds.proofs.shares.candidates.any_refuses.Given as goal

abbrev pub invariant-loop-filter : goal.invariant-loop-filter
invariant-loop-filter l = list_any (refuses l.now l.agent l.free) (drop l.filter-index l.filters) ≡ list_any (refuses l.now l.agent l.free) l.filters
