use Rattle.std.proofs.Common.{◌≡◌, length}
use Rattle.cluster_model.specs.Ids.{is_repeated}
use Rattle.master_agents.proofs.own.is_repeated.Given as goal

abbrev pub invariant-loop-id : goal.invariant-loop-id
invariant-loop-id l = is_repeated l.rest ≡ is_repeated l.ids

abbrev pub decreases-loop-id : goal.decreases-loop-id
decreases-loop-id l = length l.rest
