use Rattle.std.proofs.Common.{rules}
use Rattle.desk_agents.proofs.Ends.{over_by_look, seen_so}
use Rattle.desk_agents.proofs.worker.Worker.record.Goals as goal

pub returns-clause-seen : goal.returns-clause-seen
returns-clause-seen g c = seen_so _ _ _ _ c.wait.result c.wait.ensures.found (λ found state says. (let met = says.says.met in let shows = says.shows in search rules))

pub returns-clause-over : goal.returns-clause-over
returns-clause-over g c = over_by_look _ _ g.D.Running.record_of g.D.Running.is_refused c.args.self.now.agent.now _ c.args.pass.now c.wait.result c.wait.ensures.over (λ state says. (let met = says.says.met in let shows = says.shows in search rules))
