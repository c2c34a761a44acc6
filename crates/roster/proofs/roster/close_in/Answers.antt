use Rattle.std.proofs.Common.{arith}
use Rattle.cluster_model.specs.Sides.{lost}
use Rattle.roster.proofs.Places.{at_place_set, at_place_past}
use Rattle.roster.proofs.roster.close_in.Goals as goal

pub returns-then-place-len : goal.returns-then-place-len
returns-then-place-len c = rw c.close.ensures (at_place_set c.args.place (lost) c.args.entries.now.items c.index_mut.result.now (omega (arith, c.len.ensures)) c.index_mut.ensures.value)

pub returns-else-place-len : goal.returns-else-place-len
returns-else-place-len c = at_place_past c.args.place (lost) c.args.entries.now.items (omega (arith, c.len.ensures))
