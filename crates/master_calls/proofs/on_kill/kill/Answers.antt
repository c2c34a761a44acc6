use Rattle.std.proofs.Common.{sym, ◌∙◌, subst, refl}
use Rattle.std.specs.Prelude.{◌||◌, ◌≡◌, true, IfSome}
use Rattle.cluster_model.specs.Masters.{held, may_have_numbers, side_of}
use Rattle.cluster_model.specs.Calls.{on_kill}
use Rattle.master_state.specs.Works.{Gave, master_of}
use Rattle.master_calls.proofs.Calling.{has_number, kill_refused, killed, turned_down}
use Rattle.master_calls.proofs.on_kill.kill.Goals as goal

pub returns-in-Err : goal.returns-in-Err
returns-in-Err c =
    turned_down c.args.state.now c.args.given c.args.framework c.in-Err.refusal (λ f. on_kill (master_of c.args.state.now) c.args.task c.args.agent f (held (master_of c.args.state.now) f.id c.args.task)) (sym c.admit.ensures ∙ c.in-Err.is)

pub kill_held-requires : goal.kill_held-requires
kill_held-requires c =
    subst (λ h. IfSome h (λ x. (x.ended || may_have_numbers 1 (side_of (master_of c.args.state.now) x.agent)) ≡ true)) (sym c.in-Ok-held_of.ensures)
    (has_number (master_of c.args.state.now) (held (master_of c.args.state.now) c.args.framework c.args.task) (sym c.kill_limit.ensures ∙ c.in_default.is))

pub returns : goal.returns
returns c = subst (λ d. Gave c.kill_held.result c.args.state.now c.kill_held.new.state d)
    (killed (master_of c.args.state.now) c.args.given c.args.framework c.in-Ok.stream c.args.task c.args.agent c.in-Ok-held_of.held (sym c.admit.ensures ∙ c.in-Ok.is) c.in-Ok-held_of.ensures)
    c.kill_held.ensures

pub returns-in-Some : goal.returns-in-Some
returns-in-Some c =
    (kill_refused (master_of c.args.state.now) c.args.given c.args.framework c.in-Ok.stream c.args.task c.args.agent (sym c.admit.ensures ∙ c.in-Ok.is) ∙ sym c.kill_limit.ensures ∙ c.in-Some.is, refl)

pub returns-in-Err-held_of : goal.returns-in-Err-held_of
returns-in-Err-held_of c =
    kill_refused (master_of c.args.state.now) c.args.given c.args.framework c.in-Ok.stream c.args.task c.args.agent (sym c.admit.ensures ∙ c.in-Ok.is) ∙ sym c.kill_limit.ensures ∙ c.in_default.is
