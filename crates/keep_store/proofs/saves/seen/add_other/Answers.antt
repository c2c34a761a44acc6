use Rattle.keep_store.proofs.SeenLemmas.{same_known}
use Rattle.keep_store.proofs.StepLemmas.{quiet_itself}
use Rattle.keep_store.proofs.saves.seen.add_other.Goals as goal

pub returns-then-eq-clause-known : goal.returns-then-eq-clause-known
returns-then-eq-clause-known g c = same_known c.args.tasks.now.items c.args.task.now

pub returns-then-eq-clause-quiet : goal.returns-then-eq-clause-quiet
returns-then-eq-clause-quiet g c = quiet_itself _
