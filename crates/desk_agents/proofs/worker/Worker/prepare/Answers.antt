use Rattle.std.proofs.Common.{Option, subst, sym}
use Rattle.messages.specs.declared.record.RecordParts.{RecordParts}
use Rattle.desk_agents.specs.Saved.{IsOpen}
use Rattle.desk_agents.proofs.Saves.{drafted}
use Rattle.desk_agents.proofs.worker.Worker.prepare.Goals as goal

pub returns-in-Ok-clause-opened : goal.returns-in-Ok-clause-opened
returns-in-Ok-clause-opened g c =
    subst (λ (o : Option RecordParts). IsOpen g.D.Running.is_taken c.args.self.now.agent.now o c.take.new.pass) (sym c.opens.ensures)
    (drafted _ c.args.names.step c.args.self.now.agent.now c.args.cause c.args.pass.now c.take.new.pass c.in-Ok.answered c.requires.name c.in-Ok.ensures.taken)
