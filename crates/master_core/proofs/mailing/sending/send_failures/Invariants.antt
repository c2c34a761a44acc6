use Rattle.std.proofs.Common.{◌≡◌, ◌++◌, take}
use Rattle.cluster_model.specs.Events.{Failure}
use Rattle.cluster_model.specs.Masters.{events_to_all}
use Rattle.master_core.proofs.mailing.sending.send_failures.Given as goal

abbrev pub invariant-loop-framework : goal.invariant-loop-framework
invariant-loop-framework l = l.events ≡ l.fn.events ++ events_to_all (take l.framework-index l.frameworks) (Failure l.agent)
