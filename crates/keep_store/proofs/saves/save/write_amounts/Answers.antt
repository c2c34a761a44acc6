use Rattle.keep_store.proofs.StepLemmas.{quiet_itself}
use Rattle.keep_store.proofs.saves.save.write_amounts.Goals as goal

pub returns-then-is_total_of-clause-quiet : goal.returns-then-is_total_of-clause-quiet
returns-then-is_total_of-clause-quiet g c = quiet_itself _
