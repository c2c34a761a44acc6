use Rattle.std.proofs.Common.{◌≡◌, ◌++◌, take, flat_map}
use Rattle.cluster_model.specs.Mails.{beats}
use Rattle.master_core.proofs.mailing.sending.send_heartbeats.Given as goal

abbrev pub invariant-loop-framework : goal.invariant-loop-framework
invariant-loop-framework l = l.events ≡ l.fn.events ++ flat_map (beats l.now) (take l.framework-index l.frameworks)
