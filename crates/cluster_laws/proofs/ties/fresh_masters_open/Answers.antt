use Rattle.cluster_laws.proofs.Told.{fresh_is}
use Rattle.cluster_laws.proofs.ties.fresh_masters_open.Goals as goal

pub returns : goal.returns
returns c = fresh_is
