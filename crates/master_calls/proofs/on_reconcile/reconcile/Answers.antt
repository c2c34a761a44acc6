use Rattle.std.proofs.Common.{sym, ◌∙◌}
use Rattle.cluster_model.specs.Calls.{on_reconcile}
use Rattle.master_state.specs.Works.{master_of}
use Rattle.master_calls.proofs.Calling.{turned_down}
use Rattle.master_calls.proofs.Reconciling.{reconciled_so}
use Rattle.master_calls.proofs.on_reconcile.reconcile.Goals as goal

pub returns-in-Err : goal.returns-in-Err
returns-in-Err c = turned_down c.args.state.now c.args.given c.args.framework c.in-Err.refusal (on_reconcile (master_of c.args.state.now) c.args.tasks.now) (sym c.admit.ensures ∙ c.in-Err.is)

pub returns-in-Ok-reconcile_asked : goal.returns-in-Ok-reconcile_asked
returns-in-Ok-reconcile_asked c =
    rw c.in-Ok-reconcile_asked.ensures
    (reconciled_so c.args.state.now c.args.given c.args.framework c.in-Ok.stream c.args.tasks.now (sym c.admit.ensures ∙ c.in-Ok.is))

pub returns-in-Err-reconcile_asked : goal.returns-in-Err-reconcile_asked
returns-in-Err-reconcile_asked c = (reconciled_so c.args.state.now c.args.given c.args.framework c.in-Ok.stream c.args.tasks.now (sym c.admit.ensures ∙ c.in-Ok.is)).0
