use Rattle.desk_agents.proofs.Saves.{found_saved}
use Rattle.desk_agents.proofs.worker.Worker.standing.Goals as goal

pub returns-in-Ok-clause-after : goal.returns-in-Ok-clause-after
returns-in-Ok-clause-after g c = found_saved _ g.C.Cabinet.keeps c.reopen.new.self c.args.self.now.agent.now c.in-Ok.kept c.args.opened.now c.args.pass.now c.standing_of.result c.in-Ok.ensures c.requires c.standing_of.ensures.after
