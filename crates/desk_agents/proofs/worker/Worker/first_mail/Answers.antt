use Rattle.desk_agents.proofs.Ends.{mail_over}
use Rattle.desk_agents.proofs.Looks.{mail_seen}
use Rattle.desk_agents.proofs.worker.Worker.first_mail.Goals as goal

pub returns-clause-seen : goal.returns-clause-seen
returns-clause-seen g c = mail_seen _ _ g.D.Running.is_first_to c.args.self.now.agent.now c.wait_mail.result c.mail_found.result c.mail_found.ensures c.wait_mail.ensures.woken

pub returns-clause-over : goal.returns-clause-over
returns-clause-over g c =
    mail_over _ _ g.D.Running.record_of g.D.Running.is_refused c.args.self.now.agent.now g.D.Recorded.kind_of g.D.Running.is_first_to c.args.pass.now c.wait_mail.result c.mail_found.result c.mail_found.ensures c.wait_mail.ensures.woken c.wait_mail.ensures.refused
