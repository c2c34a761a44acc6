use Rattle.cluster_safe.proofs.Histories.{history_premises}
use Rattle.cluster_safe.proofs.mails_meet_their_premises.Goals as goal

pub returns : goal.returns
returns c = history_premises
