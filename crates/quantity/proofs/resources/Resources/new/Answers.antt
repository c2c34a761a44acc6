use Rattle.quantity.proofs.Rests.{no_rows}
use Rattle.quantity.proofs.resources.Resources.new.Goals as goal

pub invariant_of-result : goal.invariant_of-result
invariant_of-result c = rw c.new.ensures.items no_rows
