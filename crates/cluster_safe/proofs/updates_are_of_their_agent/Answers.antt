use Rattle.cluster_safe.proofs.Histories.{history_there}
use Rattle.cluster_safe.proofs.updates_are_of_their_agent.Goals as goal

pub returns : goal.returns
returns c = history_there
