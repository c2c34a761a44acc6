use Rattle.cluster_laws.proofs.Histories.{history_stands}
use Rattle.cluster_laws.proofs.laws.sent_items_stand.Goals as goal

pub returns : goal.returns
returns c = history_stands
