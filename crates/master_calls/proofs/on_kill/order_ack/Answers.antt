use Rattle.std.proofs.Common.{refl, sym, ◌∙◌}
use Rattle.messages.specs.declared.mail.Command.TheVariants.{Ack}
use Rattle.cluster_model.specs.Sides.{SendAck}
use Rattle.master_calls.proofs.Calling.{commanded_so}
use Rattle.master_calls.proofs.on_kill.order_ack.Goals as goal

pub returns-in-Ok : goal.returns-in-Ok
returns-in-Ok c = rw c.in-Ok.ensures (commanded_so c.args.state.now c.args.agent.now (Ack c.args.key c.args.k) (SendAck c.args.key c.args.k) (λ t. refl) (sym c.may_have_numbers.ensures ∙ c.if-not-may_have_numbers.false))
