use Rattle.std.proofs.Common.{Ok, ap, sym, ◌∙◌}
use Rattle.messages.specs.declared.mail.AgentMail.TheVariants.{Report}
use Rattle.master_core.proofs.MailLemmas.{answered_away, known_so, report_away}
use Rattle.master_core.proofs.Reporting.{opened_so}
use Rattle.master_core.proofs.mailing.on_mail.receive_report.Goals as goal

pub returns-in-Err : goal.returns-in-Err
returns-in-Err c =
    answered_away c.turn_away.result c.args.state.now c.turn_away.new.state c.args.agent.now (Report c.args.session c.args.number c.args.tasks c.args.total) c.in-Err.refusal
    (report_away c.args.state.now c.args.agent.now c.args.session c.args.number c.args.tasks c.args.total c.in-Err.refusal (sym c.judge_report.ensures ∙ c.in-Err.is)) c.turn_away.ensures.refusal c.turn_away.ensures.state

pub returns-in_ok-open_session-in-Ok-true : goal.returns-in_ok-open_session-in-Ok-true
returns-in_ok-open_session-in-Ok-true c =
    rw c.in_ok-open_session-in-Ok-true.ensures (opened_so c.args.state.now c.args.agent.now c.args.session c.args.number c.args.tasks c.args.total (sym c.judge_report.ensures ∙ c.in-Ok-true.is ∙ ap (λ b. Ok b) c.in-Ok-true.field-0-test))

pub returns-in-Ok-false : goal.returns-in-Ok-false
returns-in-Ok-false c = known_so c.args.state.now c.args.agent.now c.args.session c.args.number c.args.tasks c.args.total (sym c.judge_report.ensures ∙ c.in-Ok-false.is ∙ ap (λ b. Ok b) c.in-Ok-false.field-0-test)
