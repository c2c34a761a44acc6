use Rattle.cluster_safe.proofs.Histories.{history_acknowledged}
use Rattle.cluster_safe.proofs.acknowledged_by_the_owner.Goals as goal

pub returns : goal.returns
returns c = history_acknowledged
