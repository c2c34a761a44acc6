use Rattle.std.proofs.Common.{◌≤◌, ap, refl, arith}
use Rattle.quantity.specs.Rows.{amount}
use Rattle.quantity.proofs.resources.Resources.minus.Goals as goal

pub returns-clause-difference : goal.returns-clause-difference
returns-clause-difference c = λ name.
    let most : amount name c.args.other.now ≤ amount name c.args.self.now = c.if-not-covers.ensures.at_least.0 refl name in
    omega (arith, most, c.reduce_by.ensures.less name, ap (amount name) c.in_ok-rest.ensures)
