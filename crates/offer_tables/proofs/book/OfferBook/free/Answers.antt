use Rattle.std.proofs.Common.{None, Some, Ok, sym, ap, subst, ◌∙◌}
use Rattle.offer_book.specs.Lists.{list_at}
use Rattle.offer_tables.specs.Accounts.{taken_by}
use Rattle.offer_tables.specs.Books.{free_of}
use Rattle.offer_tables.specs.Rows.{IsPlaceOf}
use Rattle.offer_tables.proofs.Booking.{free_unknown, free_there}
use Rattle.offer_tables.proofs.Books.{by_memory}
use Rattle.offer_tables.proofs.Changed.{row_at}
use Rattle.offer_tables.proofs.book.OfferBook.free.Goals as goal

pub returns-in_default-clause-refused : goal.returns-in_default-clause-refused
returns-in_default-clause-refused c =
    let n = c.args.name.now in
    let placed : IsPlaceOf n c.self.inside.agents.items None = subst (λ rs. IsPlaceOf n rs None) c.deref.ensures.value c.in_default.ensures in
    ap (free_of n) (sym c.self.view_is) ∙ free_unknown n c.self.inside.agents.items c.self.inside.offers c.self.inside.tasks c.self.invariant.each placed

pub returns-in_err-to_resources-clause-refused : goal.returns-in_err-to_resources-clause-refused
returns-in_err-to_resources-clause-refused c =
    let n = c.args.name.now in
    let r = c.index-row.result.now in
    let placed : IsPlaceOf n c.self.inside.agents.items (Some c.in-Some.place) = subst (λ rs. IsPlaceOf n rs (Some c.in-Some.place)) c.deref.ensures.value c.in-Some.ensures in
    by_memory c.from_residual.result _ _ c.from_residual.ensures.1
    (ap (free_of n) (sym c.self.view_is) ∙ free_there n c.self.inside.agents.items c.self.inside.offers c.self.inside.tasks c.self.invariant.each c.in-Some.place placed r c.index-row.ensures)

pub returns-clause-ok : goal.returns-clause-ok
returns-clause-ok c =
    let n = c.args.name.now in
    let rs = c.self.inside.agents.items in
    let p = c.in-Some.place in
    let r = c.index-row.result.now in
    let placed : IsPlaceOf n rs (Some p) = subst (λ x. IsPlaceOf n x (Some p)) c.deref.ensures.value c.in-Some.ensures in
    let taken = taken_by (list_at p c.self.inside.offers) (list_at p c.self.inside.tasks) in
    let is = row_at rs c.self.inside.offers c.self.inside.tasks p r c.self.invariant.each placed.0 c.index-row.ensures in
    ap (free_of n) (sym c.self.view_is)
    ∙ free_there n rs c.self.inside.offers c.self.inside.tasks c.self.invariant.each p placed r c.index-row.ensures
    ∙ ap (λ rest. Ok rest) (sym (c.in_ok-to_resources.ensures taken is.free))
