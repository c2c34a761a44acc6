use Rattle.std.proofs.Common.{◌≡◌, fold}
use Rattle.master_calls.specs.Reconciles.{sends_held}
use Rattle.master_calls.proofs.on_reconcile.send_all.Given as goal

abbrev pub invariant-loop-held : goal.invariant-loop-held
invariant-loop-held l = l.state ≡ fold (sends_held l.stream) l.fn.state l.yielded
