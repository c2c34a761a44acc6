use Rattle.quantity.proofs.Rests.{rests_join as law}
use Rattle.quantity.proofs.laws.rests_join.Goals as goal

pub returns : goal.returns
returns c = law
