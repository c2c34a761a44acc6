use Rattle.std.proofs.Common.{◌≡◌, ◌&&◌}
use Rattle.std.specs.List.{list_any}
use Rattle.names_core.specs.Ids.{same}
use Rattle.master_agents.proofs.own.has_offer.Given as goal

abbrev pub invariant-loop-offer : goal.invariant-loop-offer
invariant-loop-offer l = list_any (λ o. same o.framework l.framework && same o.id l.id) l.offer-iterator ≡ list_any (λ o. same o.framework l.framework && same o.id l.id) l.side.offers
