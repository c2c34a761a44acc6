use Rattle.std.proofs.Common.{rules}
use Rattle.desk_agents.proofs.Ends.{look_found, look_over, over_by_look, seen_if}
use Rattle.desk_agents.proofs.worker.Worker.owns.Goals as goal

pub returns-clause-own : goal.returns-clause-own
returns-clause-own g c = seen_if _ _ _ _ c.found.result (look_found _ _ _ c.wait_for.result c.found.result c.found.ensures c.wait_for.ensures.waited) (λ is state yes says. (let met = says.says.met in let shows = says.shows in search rules))

pub returns-clause-over : goal.returns-clause-over
returns-clause-over g c =
    over_by_look _ _ g.D.Running.record_of g.D.Running.is_refused c.args.self.now.agent.now _ c.args.pass.now c.found.result (look_over _ _ g.D.Recorded.kind_of _ c.args.pass.now c.wait_for.result c.found.result c.found.ensures c.wait_for.ensures.waited c.wait_for.ensures.refused) (λ state says. (let met = says.says.met in let shows = says.shows in search rules))
