use Rattle.std.proofs.Common.{◌<◌, ◌∙◌, ℕ, Some, length, arith, ap, cond}
use Rattle.std.specs.Ordering.{is_eq}
use Rattle.desk_agents.specs.Declines.{first_seen, offer_cmp}
use Rattle.desk_agents.proofs.Unanswered.{noted_more}
use Rattle.desk_agents.proofs.declines.Sightings.note.Goals as goal

pub loop-offer-preserved : goal.loop-offer-preserved
loop-offer-preserved c =
    let i = c.loop-offer.offer-index in
    let o = c.offer-item.result in
    let here : i < length c.args.offers.now = omega arith in
    let before = first_seen c.loop-offer.first in
    noted_more c.args.now (first_seen c.args.self.now.first) before (first_seen c.insert.new.self) c.args.offers.now i o here c.offer-item.is c.loop-offer.invariant
    (λ id. c.in_ok-insert.ensures.updates.0 id ∙ ap (λ (n : ℕ). cond (is_eq (offer_cmp o.id id)) (Some n) (before id)) c.since.ensures)
