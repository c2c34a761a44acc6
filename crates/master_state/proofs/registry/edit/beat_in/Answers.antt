use Rattle.std.proofs.Common.{rules, arith}
use Rattle.std.proofs.lemmas.List.Edits.{map_over_more}
use Rattle.cluster_model.specs.Mails.{after_heartbeat}
use Rattle.master_state.proofs.registry.edit.beat_in.Goals as goal

pub loop-i-preserved : goal.loop-i-preserved
loop-i-preserved c = rw c.beat_one.ensures (map_over_more (after_heartbeat c.args.now) c.args.frameworks.now.items c.loop-i.frameworks.items c.loop-i.i c.index_mut.result.now (omega (arith, c.len-i-end.ensures)) c.loop-i.invariant (search rules))
