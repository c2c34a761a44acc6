use Rattle.std.specs.Fn.{FnReturnsAt}
use Rattle.desk_agents.proofs.Ends.{look_found, look_over, stops_by_office}
use Rattle.desk_agents.proofs.worker.Worker.wait.Goals as goal

pub returns-clause-found : goal.returns-clause-found
returns-clause-found g c = look_found _ _ (λ state found. FnReturnsAt g.G.Fn c.args.look state found) c.wait_for.result c.found.result c.found.ensures c.wait_for.ensures.waited

pub returns-clause-over : goal.returns-clause-over
returns-clause-over g c = look_over _ _ g.D.Recorded.kind_of (λ state found. FnReturnsAt g.G.Fn c.args.look state found) c.args.pass.now c.wait_for.result c.found.result c.found.ensures c.wait_for.ensures.waited c.wait_for.ensures.refused

pub returns-clause-office : goal.returns-clause-office
returns-clause-office g c = stops_by_office c.wait_for.result c.found.result c.found.ensures
