use Rattle.cluster_safe.proofs.AllIssued.{issued_alike}
use Rattle.cluster_safe.proofs.issued_commands_are_one_list.Goals as goal

pub returns : goal.returns
returns c = issued_alike
