use Rattle.std.proofs.Common.{◌≡◌, None, true, false, refl, sym, ◌∙◌, subst}
use Rattle.cluster_model.specs.Calls.{on_acknowledge}
use Rattle.master_state.specs.Works.{Gave, done, master_of, work_of}
use Rattle.master_state.proofs.Doings.{nothing_done}
use Rattle.master_calls.proofs.Calling.{acked_at, turned_down}
use Rattle.master_calls.proofs.on_kill.acknowledge.Goals as goal

pub returns-in-Err : goal.returns-in-Err
returns-in-Err c =
    turned_down c.args.state.now c.args.given c.args.framework c.in-Err.refusal (on_acknowledge (master_of c.args.state.now) c.args.agent.now c.args.task.now c.args.update.key c.args.update.k) (sym c.admit.ensures ∙ c.in-Err.is)

pub returns-then-not-is_received_last : goal.returns-then-not-is_received_last
returns-then-not-is_received_last c =
    subst (λ d. (d.refusal ≡ None) × (work_of c.args.state.now ≡ done d (work_of c.args.state.now)))
    (acked_at (master_of c.args.state.now) c.args.given c.args.framework c.in-Ok.stream c.args.agent.now c.args.task.now c.args.update c.key-key.result c.from-k.result false (sym c.admit.ensures ∙ c.in-Ok.is) c.key-key.ensures (c.from-k.ensures ∙ c.k.ensures) c.if-not-is_received_last.ensures)
    (refl, nothing_done c.args.state.now)

pub returns : goal.returns
returns c = subst (λ d. Gave c.order_ack.result c.args.state.now c.order_ack.new.state d)
    (acked_at (master_of c.args.state.now) c.args.given c.args.framework c.in-Ok.stream c.args.agent.now c.args.task.now c.args.update c.key-key.result c.from-k.result true (sym c.admit.ensures ∙ c.in-Ok.is) c.key-key.ensures (c.from-k.ensures ∙ c.k.ensures) c.if-not-is_received_last.ensures)
    c.order_ack.ensures
