use Rattle.quantity.proofs.Rests.{rests_are_rows, rests_are_less}
use Rattle.quantity.proofs.resources.Resources.reduce_by.Goals as goal

pub invariant_of-self : goal.invariant_of-self
invariant_of-self c = rw (c.reduce.ensures, c.deref.ensures.value) (rests_are_rows c.self.inside.rows.items c.other.inside.rows.items c.self.invariant)

pub returns-clause-less : goal.returns-clause-less
returns-clause-less c = λ name.
    rw (c.reduce.ensures, c.deref.ensures.value, ← c.self.view_is, ← c.other.view_is) (rests_are_less c.self.inside.rows.items c.other.inside.rows.items c.self.invariant name)
