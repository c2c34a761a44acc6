use Rattle.cluster_safe.proofs.Growth.{draft_grows}
use Rattle.cluster_safe.proofs.updates_only_grow.Goals as goal

pub returns : goal.returns
returns c = draft_grows
