use Rattle.std.proofs.Common.{◌≡◌, take}
use Rattle.master_rounds.specs.News.{places_of}
use Rattle.master_rounds.proofs.news.places_of.Given as goal

abbrev pub invariant-loop-offer : goal.invariant-loop-offer
invariant-loop-offer l = l.places.items ≡ places_of l.frameworks (take l.offer-index l.offers)
