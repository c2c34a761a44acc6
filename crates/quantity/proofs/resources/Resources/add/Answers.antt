use Rattle.std.proofs.Common.{sym, arith}
use Rattle.quantity.proofs.Sums.{raised_are}
use Rattle.quantity.proofs.resources.Resources.add.Goals as goal

pub invariant_of-self : goal.invariant_of-self
invariant_of-self c =
    raised_are c.raise.result c.args.name.now c.args.amount c.self.inside.rows.items c.raise.new.rows.items c.self.invariant (sym c.if-not-is_resource_name.ensures) (omega arith)
    c.raise.ensures.ok c.raise.ensures.err
