use Rattle.std.proofs.Common.{◌≡◌, [], flat_map}
use Rattle.quantity.specs.Rows.{plus_rows}
use Rattle.master_agents.specs.Own.{named_rows}
use Rattle.master_agents.proofs.own.named_sum.Given as goal

abbrev pub invariant-loop-offer : goal.invariant-loop-offer
invariant-loop-offer l = plus_rows l.sum (flat_map (named_rows l.framework l.ids) l.offer-iterator) ≡ plus_rows [] (flat_map (named_rows l.framework l.ids) l.side.offers)
