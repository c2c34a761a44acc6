use Rattle.cluster_laws.proofs.Histories.{history_weighed}
use Rattle.cluster_laws.proofs.runs.weights_stay.Goals as goal

pub returns : goal.returns
returns c = history_weighed
