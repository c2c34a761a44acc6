use Rattle.drf_pick.proofs.Standing.{amounts_decide as law}
use Rattle.drf_pick.proofs.laws.amounts_decide.Goals as goal

pub returns : goal.returns
returns c = law
