use Rattle.cluster_safe.proofs.Histories.{history_has_all}
use Rattle.cluster_safe.proofs.records_have_all_updates.Goals as goal

pub returns : goal.returns
returns c = history_has_all
