use Rattle.std.proofs.Common.{rules}
use Rattle.desk_agents.proofs.Unanswered.{shut_by_look}
use Rattle.desk_agents.proofs.declines.Watch.goes_on.Goals as goal

pub returns : goal.returns
returns g c = λ e. shut_by_look _ _ _ c.args.pass.now c.wait.result c.wait.ensures.over (c.has_ended.ensures (let h = e in search rules)) (λ state says. (let met = says.says.met in let shows = says.shows in search rules))
