use Rattle.std.proofs.Common.{[], flat_map, sym, ap, ◌∙◌}
use Rattle.quantity.specs.Rows.{plus_rows}
use Rattle.master_agents.specs.Own.{named_rows}
use Rattle.master_agents.proofs.Owning.{named_rows_are}
use Rattle.master_agents.proofs.own.named_sum.Goals as goal

pub returns : goal.returns
returns c =
    sym (ap (λ os. plus_rows c.loop-offer.sum (flat_map (named_rows c.args.framework c.args.ids.now) os)) c.in-None.ensures.steps.0)
    ∙ c.loop-offer.invariant ∙ ap (plus_rows []) (named_rows_are c.args.framework c.args.ids.now c.args.side.now.offers)
