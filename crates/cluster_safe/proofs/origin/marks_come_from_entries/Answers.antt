use Rattle.cluster_safe.proofs.Entries.{history_traced}
use Rattle.cluster_safe.proofs.origin.marks_come_from_entries.Goals as goal

pub returns : goal.returns
returns c = history_traced
