use Rattle.cluster_laws.proofs.Histories.{opening_stands}
use Rattle.cluster_laws.proofs.laws.opening_items_stand.Goals as goal

pub returns : goal.returns
returns c = opening_stands
