use Rattle.cluster_safe.proofs.Gapless.{history_acknowledges}
use Rattle.cluster_safe.proofs.acknowledgements_are_prefixes.Goals as goal

pub returns : goal.returns
returns c = history_acknowledges
