use Rattle.desk_agents.specs.Saved.{HasDelivered}
use Rattle.desk_agents.proofs.worker.Worker.deliver.Given as goal

abbrev pub invariant-loop : goal.invariant-loop
invariant-loop g l = HasDelivered l.fn.pass l.pass
