use Rattle.cluster_safe.proofs.AcknowledgedGrowth.{history_rises, history_most, history_counts}
use Rattle.cluster_safe.proofs.acknowledged_updates_only_grow.Goals as goal

pub returns : goal.returns
returns c = record { rises = history_rises; most = history_most; counted = history_counts }
