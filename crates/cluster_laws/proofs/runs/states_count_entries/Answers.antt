use Rattle.cluster_laws.proofs.Histories.{history_counted}
use Rattle.cluster_laws.proofs.runs.states_count_entries.Goals as goal

pub returns : goal.returns
returns c = history_counted
