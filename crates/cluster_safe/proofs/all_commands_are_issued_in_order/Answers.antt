use Rattle.cluster_safe.proofs.AllIssued.{history_issued, history_once}
use Rattle.cluster_safe.proofs.all_commands_are_issued_in_order.Goals as goal

pub returns : goal.returns
returns c = record { issued = history_issued; numbers = history_once }
