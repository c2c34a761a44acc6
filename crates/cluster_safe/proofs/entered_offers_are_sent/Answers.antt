use Rattle.cluster_safe.proofs.Offered.{offers_told}
use Rattle.cluster_safe.proofs.entered_offers_are_sent.Goals as goal

pub returns : goal.returns
returns c = offers_told
