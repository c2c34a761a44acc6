use Rattle.std.proofs.Common.{◌≡◌, drop}
use Rattle.std.specs.List.{list_all}
use Rattle.cluster_model.specs.Sides.{has_offer}
use Rattle.master_agents.proofs.own.has_offers.Given as goal

abbrev pub invariant-loop-id : goal.invariant-loop-id
invariant-loop-id l = list_all (has_offer l.side l.framework) (drop l.id-index l.ids) ≡ list_all (has_offer l.side l.framework) l.ids
