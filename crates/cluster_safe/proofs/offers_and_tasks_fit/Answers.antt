use Rattle.cluster_safe.proofs.Histories.{history_fits}
use Rattle.cluster_safe.proofs.offers_and_tasks_fit.Goals as goal

pub returns : goal.returns
returns c = history_fits
