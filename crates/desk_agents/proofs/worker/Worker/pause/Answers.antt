use Rattle.std.proofs.Common.{rules}
use Rattle.desk_agents.proofs.Ends.{over_shut, unless_later_ends, unless_later_over}
use Rattle.desk_agents.proofs.worker.Worker.pause.Goals as goal

pub returns-in-Err-clause-over : goal.returns-in-Err-clause-over
returns-in-Err-clause-over g c =
    unless_later_over _ c.in-Err.stop c.unless_later.result c.unless_later.ensures (λ e. over_shut _ _ g.D.Running.record_of g.D.Running.is_refused c.args.self.now.agent.now _ c.args.pass.now (c.in-Err.ensures.over e) (λ state says. (let met = says.says.met in let shows = says.shows in search rules)))

pub returns-in-Err-clause-ended : goal.returns-in-Err-clause-ended
returns-in-Err-clause-ended g c = unless_later_ends c.in-Err.stop c.unless_later.result c.unless_later.ensures c.in-Err.ensures.office
