use Rattle.std.proofs.Common.{refl, sym, ◌∙◌}
use Rattle.cluster_model.specs.Calls.{on_suppress}
use Rattle.master_state.specs.Frameworks.{suppressed}
use Rattle.master_state.specs.Works.{master_of}
use Rattle.master_calls.proofs.Calling.{changed_so, turned_down}
use Rattle.master_calls.proofs.on_revive.suppress.Goals as goal

pub returns-in-Err : goal.returns-in-Err
returns-in-Err c = turned_down c.args.state.now c.args.given c.args.framework c.in-Err.refusal (on_suppress (master_of c.args.state.now)) (sym c.admit.ensures ∙ c.in-Err.is)

pub returns : goal.returns
returns c = rw c.suppress.ensures (changed_so suppressed (λ f. refl) c.args.state.now c.args.given c.args.framework c.in-Ok.stream (sym c.admit.ensures ∙ c.in-Ok.is) c.as_slice-known.ensures.ordered (on_suppress (master_of c.args.state.now)) (λ f. refl))
