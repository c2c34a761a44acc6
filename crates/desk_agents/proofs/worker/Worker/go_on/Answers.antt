use Rattle.desk_agents.specs.Saved.{WasKept}
use Rattle.desk_agents.proofs.Saves.{keeps_delivered, keeps_prepare, keeps_then}
use Rattle.desk_agents.proofs.worker.Worker.go_on.Goals as goal

pub returns-in_err-deliver-clause-keeps : goal.returns-in_err-deliver-clause-keeps
returns-in_err-deliver-clause-keeps g c = keeps_then g.D.Running.is_taken (WasKept g.C.Cabinet.keeps) c.args.pass.now c.settle.new.pass c.deliver.new.pass c.settle.ensures.keeps (keeps_delivered g.D.Running.is_taken (WasKept g.C.Cabinet.keeps) c.settle.new.pass c.deliver.new.pass c.deliver.ensures.delivered)

pub returns-in_err-cause-clause-keeps : goal.returns-in_err-cause-clause-keeps
returns-in_err-cause-clause-keeps g c = keeps_then g.D.Running.is_taken (WasKept g.C.Cabinet.keeps) c.args.pass.now c.settle.new.pass c.deliver.new.pass c.settle.ensures.keeps (keeps_delivered g.D.Running.is_taken (WasKept g.C.Cabinet.keeps) c.settle.new.pass c.deliver.new.pass c.deliver.ensures.delivered)

pub returns-in_err-names-in-Some-clause-keeps : goal.returns-in_err-names-in-Some-clause-keeps
returns-in_err-names-in-Some-clause-keeps g c = keeps_then g.D.Running.is_taken (WasKept g.C.Cabinet.keeps) c.args.pass.now c.settle.new.pass c.deliver.new.pass c.settle.ensures.keeps (keeps_delivered g.D.Running.is_taken (WasKept g.C.Cabinet.keeps) c.settle.new.pass c.deliver.new.pass c.deliver.ensures.delivered)

pub returns-in-None-clause-keeps : goal.returns-in-None-clause-keeps
returns-in-None-clause-keeps g c = keeps_then g.D.Running.is_taken (WasKept g.C.Cabinet.keeps) c.args.pass.now c.settle.new.pass c.deliver.new.pass c.settle.ensures.keeps (keeps_delivered g.D.Running.is_taken (WasKept g.C.Cabinet.keeps) c.settle.new.pass c.deliver.new.pass c.deliver.ensures.delivered)

pub returns-in_ok-names-in-Some-clause-keeps : goal.returns-in_ok-names-in-Some-clause-keeps
returns-in_ok-names-in-Some-clause-keeps g c =
    let names = c.in_ok-names-in-Some.names in
    keeps_then g.D.Running.is_taken (WasKept g.C.Cabinet.keeps) c.args.pass.now c.deliver.new.pass c.prepare.new.pass
    (keeps_then g.D.Running.is_taken (WasKept g.C.Cabinet.keeps) c.args.pass.now c.settle.new.pass c.deliver.new.pass c.settle.ensures.keeps (keeps_delivered g.D.Running.is_taken (WasKept g.C.Cabinet.keeps) c.settle.new.pass c.deliver.new.pass c.deliver.ensures.delivered))
    (keeps_prepare g.D.Running.is_taken (WasKept g.C.Cabinet.keeps) g.D.Running.is_refused names.step names.stop c.in-Some.cause c.deliver.new.pass c.prepare.new.pass c.prepare.result c.prepare.ensures.prepares c.prepare.ensures.refused)
