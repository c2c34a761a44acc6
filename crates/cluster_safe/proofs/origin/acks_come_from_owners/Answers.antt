use Rattle.cluster_safe.proofs.OriginAcks.{history_acks}
use Rattle.cluster_safe.proofs.origin.acks_come_from_owners.Goals as goal

pub returns : goal.returns
returns c = history_acks
