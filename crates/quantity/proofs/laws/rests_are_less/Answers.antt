use Rattle.quantity.proofs.Rests.{rests_are_less as law}
use Rattle.quantity.proofs.laws.rests_are_less.Goals as goal

pub returns : goal.returns
returns c = law
