use Rattle.drf_pick.proofs.PickedOnce.{pick_is_one}
use Rattle.drf_pick.proofs.laws.pick_is_one.Goals as goal

pub returns : goal.returns
returns c = pick_is_one
