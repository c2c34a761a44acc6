use Rattle.std.proofs.Common.{[], None, Some, Ok, sym, ap, subst, ◌∙◌}
use Rattle.offer_tables.specs.Accounts.{reopened}
use Rattle.offer_tables.specs.Books.{emptied_on}
use Rattle.offer_tables.specs.Rows.{IsPlaceOf, IsReset, account}
use Rattle.offer_tables.proofs.Amounts.{row_reset}
use Rattle.offer_tables.proofs.Booking.{changed_unknown, changed_there}
use Rattle.offer_tables.proofs.Books.{book_emptied, view_changed}
use Rattle.offer_tables.proofs.book.OfferBook.empty_agent.Goals as goal

pub returns-in_default-clause-refused : goal.returns-in_default-clause-refused
returns-in_default-clause-refused c =
    let n = c.args.name.now in
    let placed : IsPlaceOf n c.self.inside.agents.items None = subst (λ rs. IsPlaceOf n rs None) c.deref.ensures.value c.in_default.ensures in
    ap (emptied_on n c.args.total) (sym c.self.view_is) ∙ changed_unknown n c.self.inside.agents.items c.self.inside.offers c.self.inside.tasks c.self.invariant.each (reopened [] c.args.total) placed

pub invariant_of-self : goal.invariant_of-self
invariant_of-self c =
    book_emptied (IsReset c.args.total) c.self.inside.names.keys c.self.inside.agents.items c.reset.new.agents.items c.self.inside.offers c.clear.new.self c.self.inside.tasks c.clear-2.new.self c.in-Some.place
    (λ r s set. ap (λ x. x.name) set) (row_reset c.args.total) c.reset.ensures c.self.invariant c.clear.ensures c.clear-2.ensures

pub returns-clause-ok : goal.returns-clause-ok
returns-clause-ok c =
    let n = c.args.name.now in
    let p = c.in-Some.place in
    let rs = c.self.inside.agents.items in
    let placed : IsPlaceOf n rs (Some p) = subst (λ x. IsPlaceOf n x (Some p)) c.deref.ensures.value c.in-Some.ensures in
    ap (emptied_on n c.args.total) (sym c.self.view_is)
    ∙ changed_there n rs c.self.inside.offers c.self.inside.tasks c.self.invariant.each p placed (reopened [] c.args.total)
    ∙ ap (λ x. Ok x) (sym (view_changed (IsReset c.args.total) (λ os. []) (λ bs. []) (reopened [] c.args.total) rs c.reset.new.agents.items c.self.inside.offers c.clear.new.self c.self.inside.tasks c.clear-2.new.self p
    c.reset.ensures c.self.invariant.each c.clear.ensures c.clear-2.ensures (λ r s os bs row set is_row. λ i. account (set i) [] [])))
