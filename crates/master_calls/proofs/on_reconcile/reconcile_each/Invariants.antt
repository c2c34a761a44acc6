use Rattle.std.proofs.Common.{◌≡◌, take, fold}
use Rattle.master_calls.specs.Reconciles.{reconciled_one}
use Rattle.master_calls.proofs.on_reconcile.reconcile_each.Given as goal

abbrev pub invariant-loop-asked : goal.invariant-loop-asked
invariant-loop-asked l = l.state ≡ fold (reconciled_one l.framework l.stream) l.fn.state (take l.asked-index l.tasks)
