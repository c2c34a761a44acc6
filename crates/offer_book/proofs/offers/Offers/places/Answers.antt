use Rattle.std.proofs.Common.{arith}
use Rattle.offer_book.proofs.Standing.{as_many, stands}
use Rattle.offer_book.proofs.offers.Offers.places.Goals as goal

pub returns : goal.returns
returns c = omega (arith, as_many (λ x. x.id) _ _ _ (stands (λ x. x.id) _ _ _ c.self.view_is c.self.invariant))
