use Rattle.std.proofs.Common.{subst, sym}
use Rattle.master_rounds.specs.News.{CanBeMade}
use Rattle.master_rounds.proofs.Making.{can_at}
use Rattle.master_rounds.proofs.news.offer_all.Goals as goal

pub offer_one-requires : goal.offer_one-requires
offer_one-requires c =
    subst (CanBeMade c.offer-item.result) (sym c.loop-offer.invariant) (can_at c.args.offers.now c.loop-offer.offer-index c.offer-item.result c.args.sides.now c.loop-offer-test.true c.offer-item.is c.requires)
