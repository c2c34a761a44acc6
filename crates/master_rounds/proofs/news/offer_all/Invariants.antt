use Rattle.std.proofs.Common.{◌≡◌, take}
use Rattle.master_rounds.specs.News.{offers_all}
use Rattle.master_rounds.proofs.news.offer_all.Given as goal

abbrev pub invariant-loop-offer : goal.invariant-loop-offer
invariant-loop-offer l = l.sides ≡ offers_all (take l.offer-index l.offers) l.fn.sides
