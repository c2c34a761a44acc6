use Rattle.cluster_safe.proofs.Histories.{history_has_room}
use Rattle.cluster_safe.proofs.agents_have_room.Goals as goal

pub returns : goal.returns
returns c = history_has_room
