use Rattle.offer_tables.proofs.Ended.{ended_takes_nothing}
use Rattle.offer_tables.proofs.laws.ended_tasks_take_nothing.Goals as goal

pub returns : goal.returns
returns c = ended_takes_nothing
