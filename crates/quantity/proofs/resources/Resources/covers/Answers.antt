use Rattle.std.proofs.Common.{◌≡◌}
use Rattle.quantity.specs.Rows.{covers}
use Rattle.quantity.proofs.Amounts.{covers_is_at_least}
use Rattle.quantity.proofs.resources.Resources.covers.Goals as goal

pub returns-clause-at_least : goal.returns-clause-at_least
returns-clause-at_least c =
    let is : c.covers.result ≡ covers c.args.self.now c.args.other.now =
    rw (← c.self.view_is, ← c.other.view_is) (rw (c.deref.ensures.value, c.deref-2.ensures.value) at c.covers.ensures) in
    rw is (covers_is_at_least c.args.self.now c.args.other.now)
