use Rattle.std.proofs.Common.{◌<◌, length, arith, sym, subst}
use Rattle.desk_agents.specs.Declines.{WasOpen}
use Rattle.desk_agents.proofs.declines.Watch.decline_due.Goals as goal

pub decline-requires : goal.decline-requires
decline-requires g c =
    let i = c.loop-offer.offer-index in
    let here : i < length c.args.offers.now = omega arith in
    subst (WasOpen g.D.Recorded.history g.D.Recorded.sound g.D.Running.offers_of) (sym c.offer-item.is) (c.requires i c.offer-item.result here)
