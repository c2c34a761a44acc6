use Rattle.keep_store.proofs.StepLemmas.{quiet_itself}
use Rattle.keep_store.proofs.saves.seen.begin_tasks.Goals as goal

pub returns-in-Some-clause-quiet : goal.returns-in-Some-clause-quiet
returns-in-Some-clause-quiet g c = quiet_itself _
