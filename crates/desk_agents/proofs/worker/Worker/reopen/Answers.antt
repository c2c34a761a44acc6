use Rattle.desk_agents.specs.Saved.{WasKept}
use Rattle.desk_agents.proofs.Saves.{keeps_stop, was_kept}
use Rattle.desk_agents.proofs.worker.Worker.reopen.Goals as goal

pub returns-clause-keeps : goal.returns-clause-keeps
returns-clause-keeps g c =
    keeps_stop g.D.Running.is_taken (WasKept g.C.Cabinet.keeps) g.D.Running.is_refused c.in_ok-name.name c.args.self.now.agent.now c.in_ok-keep.keep c.args.pass.now c.stop.new.pass c.stop.result c.in_ok-name.ensures
    (λ e. was_kept g.D.Running.is_taken g.C.Cabinet.keeps c.standing.new.cabinet c.args.self.now.agent.now c.args.pass.now (c.in_ok-keep.ensures.after e)) c.stop.ensures.stops c.stop.ensures.refused
