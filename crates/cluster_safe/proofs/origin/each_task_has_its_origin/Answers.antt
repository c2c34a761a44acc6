use Rattle.cluster_safe.proofs.Once.{history_launches}
use Rattle.cluster_safe.proofs.origin.each_task_has_its_origin.Goals as goal

pub returns : goal.returns
returns c = history_launches
