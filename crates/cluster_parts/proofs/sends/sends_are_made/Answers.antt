use Rattle.cluster_parts.proofs.Sendings.{send_made}
use Rattle.cluster_parts.proofs.sends.sends_are_made.Goals as goal

pub returns : goal.returns
returns c = send_made c.sent_items_stand.ensures
