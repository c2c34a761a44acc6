use Rattle.drf_pick.proofs.Picks.{picks_least as law}
use Rattle.drf_pick.proofs.laws.picks_least.Goals as goal

pub returns : goal.returns
returns c = law
