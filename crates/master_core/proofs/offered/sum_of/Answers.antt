use Rattle.std.proofs.Common.{sym, ◌∙◌, ap}
use Rattle.quantity.specs.Rows.{plus_rows}
use Rattle.cluster_model.specs.Sides.{offer_rows}
use Rattle.master_agents.proofs.Owning.{plus_joined}
use Rattle.master_core.proofs.offered.sum_of.Goals as goal

pub loop-offer-preserved : goal.loop-offer-preserved
loop-offer-preserved c =
    ap (λ sum. plus_rows sum (offer_rows c.next.new.self)) c.in_ok-add.ensures
    ∙ sym (plus_joined c.loop-offer.sum c.in-Some.offer.now.resources (offer_rows c.next.new.self))
    ∙ ap (λ os. plus_rows c.loop-offer.sum (offer_rows os)) (sym c.in-Some.ensures.steps)
    ∙ c.loop-offer.invariant

pub returns : goal.returns
returns c = sym (ap (λ os. plus_rows c.loop-offer.sum (offer_rows os)) c.in-None.ensures.steps.0) ∙ c.loop-offer.invariant
