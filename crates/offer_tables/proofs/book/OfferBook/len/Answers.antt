use Rattle.std.proofs.Common.{◌≡◌, length, arith, ap}
use Rattle.offer_tables.specs.Rows.{accounts}
use Rattle.offer_tables.proofs.Booking.{as_many_accounts}
use Rattle.offer_tables.proofs.book.OfferBook.len.Goals as goal

pub returns : goal.returns
returns c =
    let seen : length (accounts c.self.inside.agents.items c.self.inside.offers c.self.inside.tasks) ≡ length c.args.self.now = ap length c.self.view_is in
    omega (arith, as_many_accounts c.self.inside.agents.items c.self.inside.offers c.self.inside.tasks c.self.invariant.each, seen)
