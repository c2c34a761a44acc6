use Rattle.cluster_safe.proofs.AcknowledgedAt.{history_owners}
use Rattle.cluster_safe.proofs.agents_count_what_owners_acknowledged.Goals as goal

pub returns : goal.returns
returns c = history_owners
