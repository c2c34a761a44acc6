use Rattle.cluster_laws.proofs.Told.{lost_is, mailed_is}
use Rattle.cluster_laws.proofs.ties.named_agents_are_found.Goals as goal

pub returns : goal.returns
returns c = record { losses = lost_is; mails = mailed_is }
