use Rattle.std.proofs.Common.{◌≡◌, ◌++◌, map, take, drop}
use Rattle.cluster_model.specs.Mails.{after_heartbeat}
use Rattle.master_state.proofs.registry.edit.beat_in.Given as goal

abbrev pub invariant-loop-i : goal.invariant-loop-i
invariant-loop-i l = l.frameworks.items ≡ map (after_heartbeat l.now) (take l.i l.fn.frameworks.items) ++ drop l.i l.fn.frameworks.items
