use Rattle.std.proofs.Common.{refl}
use Rattle.messages.specs.declared.mail.Command.TheVariants.{Kill}
use Rattle.cluster_model.specs.Sides.{SendKill}
use Rattle.master_calls.proofs.Calling.{commanded_so}
use Rattle.master_calls.proofs.on_kill.order_kill.Goals as goal

pub returns-in-Ok : goal.returns-in-Ok
returns-in-Ok c = rw c.in-Ok.ensures (commanded_so c.args.state.now c.args.agent.now (Kill c.args.key) (SendKill c.args.key) (λ t. refl) c.requires)
