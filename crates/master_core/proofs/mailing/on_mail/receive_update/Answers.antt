use Rattle.std.proofs.Common.{sym, ◌∙◌}
use Rattle.messages.specs.declared.mail.AgentMail.TheVariants.{Update}
use Rattle.master_state.specs.Works.{run_of}
use Rattle.master_core.proofs.MailLemmas.{answered_away, updated_so}
use Rattle.master_core.proofs.mailing.on_mail.receive_update.Goals as goal

pub returns-in-Some : goal.returns-in-Some
returns-in-Some c =
    answered_away c.turn_away.result c.args.state.now c.turn_away.new.state c.args.agent.now (Update c.args.session c.args.update.now.key c.args.update.now.k c.args.update.now.state c.args.update.now.ended) c.in-Some.refusal (sym c.judge.ensures ∙ c.in-Some.is) c.turn_away.ensures.refusal c.turn_away.ensures.state

pub returns : goal.returns
returns c =
    rw (c.receive_update.ensures (run_of c.args.state.now), c.in_ok-send_news.ensures, c.tasks_of-tasks.ensures)
    (updated_so c.args.state.now c.args.agent.now c.args.session c.args.update.now (sym c.judge.ensures ∙ c.in_default.is))
