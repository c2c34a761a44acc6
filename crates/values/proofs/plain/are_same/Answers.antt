use Rattle.std.specs.Cmp.Lexicographic.{pointwise_decides}
use Rattle.values.proofs.plain.are_same.Goals as goal

pub returns : goal.returns
returns g c = rw c.eq.ensures (pointwise_decides g.met.T.Plain.decided c.args.values.now c.args.others.now)
