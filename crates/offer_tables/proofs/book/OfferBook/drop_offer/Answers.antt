use Rattle.offer_tables.proofs.Ridding.{offer_dropped}
use Rattle.offer_tables.proofs.book.OfferBook.drop_offer.Goals as goal

pub returns : goal.returns
returns c = offer_dropped c.args.id c.args.self.now c.withdraw-withdrawn.new.self c.withdraw-withdrawn.result c.withdraw-withdrawn.ensures.ok c.withdraw-withdrawn.ensures.refused c.withdraw-withdrawn.ensures.err
