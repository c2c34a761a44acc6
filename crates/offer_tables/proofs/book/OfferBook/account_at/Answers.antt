use Rattle.std.proofs.Common.{length, slice_get, ap, ◌∙◌, arith}
use Rattle.offer_tables.proofs.Booking.{as_many_accounts}
use Rattle.offer_tables.proofs.Changed.{row_at}
use Rattle.offer_tables.proofs.Counting.{account_got, none_got}
use Rattle.offer_tables.proofs.book.OfferBook.account_at.Goals as goal

pub returns-then-place-len : goal.returns-then-place-len
returns-then-place-len c =
    none_got c.args.self.now c.args.place
    (omega (
      arith,
      c.if-place-len.true,
      c.len.ensures,
      as_many_accounts c.self.inside.agents.items c.self.inside.offers c.self.inside.tasks c.self.invariant.each,
      ap length c.self.view_is,
    ))

pub invariant_of-result : goal.invariant_of-result
invariant_of-result c =
    row_at c.self.inside.agents.items c.self.inside.offers c.self.inside.tasks c.args.place c.index.result.now c.self.invariant.each (omega (arith, c.if-place-len.false, c.len.ensures)) c.index.ensures

pub returns : goal.returns
returns c =
    account_got c.self.inside.agents.items c.self.inside.offers c.self.inside.tasks c.args.place c.index.result.now c.self.invariant.each (omega (arith, c.if-place-len.false, c.len.ensures)) c.index.ensures
    ∙ ap (λ as_. slice_get as_ c.args.place) c.self.view_is
