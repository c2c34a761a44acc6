use Rattle.drf_pick.proofs.Standing.{standing_is_order as law}
use Rattle.drf_pick.proofs.laws.standing_is_order.Goals as goal

pub returns : goal.returns
returns c = law
