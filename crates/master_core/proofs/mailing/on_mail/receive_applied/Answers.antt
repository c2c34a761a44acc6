use Rattle.std.proofs.Common.{sym, ◌∙◌}
use Rattle.messages.specs.declared.mail.AgentMail.TheVariants.{Applied}
use Rattle.master_state.specs.Works.{run_of}
use Rattle.master_core.proofs.MailLemmas.{answered_away, applied_so}
use Rattle.master_core.proofs.mailing.on_mail.receive_applied.Goals as goal

pub returns-in-Some : goal.returns-in-Some
returns-in-Some c =
    answered_away c.turn_away.result c.args.state.now c.turn_away.new.state c.args.agent.now (Applied c.args.session c.args.count) c.in-Some.refusal (sym c.judge.ensures ∙ c.in-Some.is) c.turn_away.ensures.refusal c.turn_away.ensures.state

pub returns-in-Ok : goal.returns-in-Ok
returns-in-Ok c = rw (c.in-Ok.ensures.ok (run_of c.args.state.now)) (applied_so c.args.state.now c.args.agent.now c.args.session c.args.count (sym c.judge.ensures ∙ c.in_default.is))
