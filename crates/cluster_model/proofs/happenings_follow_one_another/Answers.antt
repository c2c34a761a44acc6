use Rattle.cluster_model.proofs.Following.{after_append}
use Rattle.cluster_model.proofs.happenings_follow_one_another.Goals as goal

pub returns : goal.returns
returns c = after_append
