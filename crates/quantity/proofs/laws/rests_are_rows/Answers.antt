use Rattle.quantity.proofs.Rests.{rests_are_rows as law}
use Rattle.quantity.proofs.laws.rests_are_rows.Goals as goal

pub returns : goal.returns
returns c = law
