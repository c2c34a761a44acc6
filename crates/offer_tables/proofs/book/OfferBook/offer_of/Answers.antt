use Rattle.std.proofs.Common.{◌≡◌, ◌-◌, zero, get_or, sym, ap, subst, ◌∙◌, arith}
use Rattle.offer_book.proofs.Taking.{here_is}
use Rattle.offer_tables.specs.Found.{offer_of}
use Rattle.offer_tables.proofs.Booking.{offer_found, offer_nowhere}
use Rattle.offer_tables.proofs.Books.{offer_within}
use Rattle.offer_tables.proofs.book.OfferBook.offer_of.Goals as goal

pub returns-in_default : goal.returns-in_default
returns-in_default c =
    sym (ap (offer_of c.args.id) (sym c.self.view_is) ∙ offer_nowhere c.args.id c.self.inside.agents.items c.self.inside.offers c.self.inside.tasks zero c.self.invariant.each (sym c.in_default.ensures.found))

pub index-row-requires : goal.index-row-requires
index-row-requires c =
    let e = c.in-Some.located.now in
    omega (
      arith,
      offer_within c.self.inside.agents.items c.self.inside.offers c.self.inside.tasks e.place c.args.id e.item c.self.invariant.each
          (here_is (λ x. x.id) c.self.inside.offers c.args.id e c.find.ensures.once (sym c.in-Some.ensures.found)).first_there,
    )

pub returns : goal.returns
returns c =
    let e = c.in-Some.located.now in
    let r = c.index-row.result.now in
    let none : e.place - zero ≡ e.place = omega arith in
    let row : r ≡ get_or c.self.inside.agents.items (e.place - zero) r = subst (λ k. r ≡ get_or c.self.inside.agents.items k r) (sym none) c.index-row.ensures in
    sym (ap (offer_of c.args.id) (sym c.self.view_is) ∙ offer_found c.args.id c.self.inside.agents.items c.self.inside.offers c.self.inside.tasks zero e r c.self.invariant.each (sym c.in-Some.ensures.found) row)
