use Rattle.std.proofs.Common.{◌≡◌, []}
use Rattle.quantity.specs.Rows.{plus_rows}
use Rattle.cluster_model.specs.Sides.{offer_rows}
use Rattle.master_core.proofs.offered.sum_of.Given as goal

abbrev pub invariant-loop-offer : goal.invariant-loop-offer
invariant-loop-offer l = plus_rows l.sum (offer_rows l.offer-iterator) ≡ plus_rows [] (offer_rows l.fn.offers)
