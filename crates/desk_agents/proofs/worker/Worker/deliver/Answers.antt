use Rattle.desk_agents.proofs.Saves.{delivered_more, delivered_none}
use Rattle.desk_agents.proofs.worker.Worker.deliver.Goals as goal

pub loop-init : goal.loop-init
loop-init g c = delivered_none c.args.pass.now

pub loop-preserved : goal.loop-preserved
loop-preserved g c = delivered_more g.D.Running.is_taken c.args.pass.now c.loop.pass c.call.new.pass c.in-Some-2.number c.in-Ok.answered c.loop.invariant c.in-Ok.ensures.answered
