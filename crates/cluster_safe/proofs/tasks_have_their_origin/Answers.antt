use Rattle.cluster_safe.proofs.Histories.{history_origin}
use Rattle.cluster_safe.proofs.tasks_have_their_origin.Goals as goal

pub returns : goal.returns
returns c = history_origin
