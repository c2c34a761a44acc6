use Rattle.drf_pick.proofs.Standing.{test_is_relation as law}
use Rattle.drf_pick.proofs.laws.test_is_relation.Goals as goal

pub returns : goal.returns
returns c = law
