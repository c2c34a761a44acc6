use Rattle.cluster_safe.proofs.Tasks.{history_sources}
use Rattle.cluster_safe.proofs.origin.tasks_come_from_accepts.Goals as goal

pub returns : goal.returns
returns c = history_sources
