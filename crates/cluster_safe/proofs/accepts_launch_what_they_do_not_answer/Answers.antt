use Rattle.cluster_safe.proofs.Accepts.{accept_launches}
use Rattle.cluster_safe.proofs.accepts_launch_what_they_do_not_answer.Goals as goal

pub returns : goal.returns
returns c = accept_launches
