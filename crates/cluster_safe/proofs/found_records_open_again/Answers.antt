use Rattle.cluster_safe.proofs.Histories.{history_found}
use Rattle.cluster_safe.proofs.found_records_open_again.Goals as goal

pub returns : goal.returns
returns c = history_found
