use Rattle.std.proofs.Common.{◌≡◌, true, false, None, Some, Ok, refl, sym, ap, subst, ◌∙◌}
use Rattle.std.specs.Cmp.Lexicographic.{bytes_decides}
use Rattle.offer_book.specs.Lists.{list_at}
use Rattle.offer_tables.specs.Accounts.{new_account}
use Rattle.offer_tables.specs.Books.{entered, entered_at, is_named_so}
use Rattle.offer_tables.specs.Rows.{IsEmptied, IsFirst, accounts, is_row_named}
use Rattle.offer_tables.proofs.Amounts.{row_occupied}
use Rattle.offer_tables.proofs.Changed.{account_nowhere, account_there, at_first_place, same_row}
use Rattle.offer_tables.proofs.Books.{at_place-same, book_changed, by_memory, view_changed}
use Rattle.offer_tables.proofs.book.OfferBook.enter_agent.Goals as goal

pub returns-in_err-append-clause-refused : goal.returns-in_err-append-clause-refused
returns-in_err-append-clause-refused c =
    let n = c.args.name in
    let rs = c.self.inside.agents.items in
    let placed : IsFirst (is_row_named n) rs None = subst (λ x. IsFirst (is_row_named n) x None) c.deref.ensures.value c.in_default.ensures in
    by_memory c.from_residual.result _ _ c.from_residual.ensures.1
    (ap (entered n c.args.total) (sym c.self.view_is)
    ∙ ap (entered_at n c.args.total (accounts rs c.self.inside.offers c.self.inside.tasks)) (account_nowhere (is_row_named n) (is_named_so n) (λ r os bs. refl) rs c.self.inside.offers c.self.inside.tasks c.self.invariant.each placed))

pub returns-in_default-clause-ok : goal.returns-in_default-clause-ok
returns-in_default-clause-ok c =
    let n = c.args.name in
    let rs = c.self.inside.agents.items in
    let placed : IsFirst (is_row_named n) rs None = subst (λ x. IsFirst (is_row_named n) x None) c.deref.ensures.value c.in_default.ensures in
    ap (entered n c.args.total) (sym c.self.view_is)
    ∙ ap (entered_at n c.args.total (accounts rs c.self.inside.offers c.self.inside.tasks)) (account_nowhere (is_row_named n) (is_named_so n) (λ r os bs. refl) rs c.self.inside.offers c.self.inside.tasks c.self.invariant.each placed)
    ∙ ap (λ x. Ok x) (sym c.in_ok-append.ensures.ok)

pub returns-then-index-clause-refused : goal.returns-then-index-clause-refused
returns-then-index-clause-refused c =
    let n = c.args.name in
    let p = c.in-Some.place in
    let rs = c.self.inside.agents.items in
    let placed : IsFirst (is_row_named n) rs (Some p) = subst (λ x. IsFirst (is_row_named n) x (Some p)) c.deref.ensures.value c.in-Some.ensures in
    ap (entered n c.args.total) (sym c.self.view_is)
    ∙ ap (entered_at n c.args.total (accounts rs c.self.inside.offers c.self.inside.tasks)) (account_there (is_row_named n) (is_named_so n) (λ r os bs. refl) rs c.self.inside.offers c.self.inside.tasks p c.index.result.now c.self.invariant.each placed c.index.ensures)
    ∙ rw c.if-index.true refl

pub invariant_of-self-2 : goal.invariant_of-self-2
invariant_of-self-2 c =
    let n = c.args.name in
    let p = c.in-Some.place in
    let rs = c.self.inside.agents.items in
    let os = c.self.inside.offers in
    let bs = c.self.inside.tasks in
    let placed : IsFirst (is_row_named n) rs (Some p) = subst (λ x. IsFirst (is_row_named n) x (Some p)) c.deref.ensures.value c.in-Some.ensures in
    book_changed (IsEmptied true c.args.total) (λ l. l) (λ l. l) c.self.inside.names.keys rs c.occupy.new.agents.items os os bs bs p
    (λ r s set. ap (λ x. x.name) set) c.occupy.ensures c.self.invariant (sym (at_place-same p os)) (sym (at_place-same p bs))
    (λ r s row set is_row. row_occupied c.args.total r s (list_at p os) (list_at p bs) is_row (ap (λ x. x.is_in) (same_row rs p r c.index.result.now row c.index.ensures placed.0) ∙ c.if-index.false) set)

pub returns-clause-ok : goal.returns-clause-ok
returns-clause-ok c =
    let n = c.args.name in
    let p = c.in-Some.place in
    let rs = c.self.inside.agents.items in
    let os = c.self.inside.offers in
    let bs = c.self.inside.tasks in
    let placed : IsFirst (is_row_named n) rs (Some p) = subst (λ x. IsFirst (is_row_named n) x (Some p)) c.deref.ensures.value c.in-Some.ensures in
    ap (entered n c.args.total) (sym c.self.view_is)
    ∙ ap (entered_at n c.args.total (accounts rs os bs)) (account_there (is_row_named n) (is_named_so n) (λ r ps cs. refl) rs os bs p c.index.result.now c.self.invariant.each placed c.index.ensures)
    ∙ rw c.if-index.false (ap (λ x. Ok x) (at_first_place (is_row_named n) (is_named_so n) (λ r ps cs. refl) (λ b. new_account n c.args.total) rs os bs p c.self.invariant.each placed
    ∙ sym (view_changed (IsEmptied true c.args.total) (λ l. l) (λ l. l) (λ b. new_account n c.args.total) rs c.occupy.new.agents.items os os bs bs p c.occupy.ensures c.self.invariant.each
    (sym (at_place-same p os)) (sym (at_place-same p bs))
    (λ r s ps cs row set is_row.
    let is_out : r.is_in ≡ false = ap (λ x. x.is_in) (same_row rs p r c.index.result.now row c.index.ensures placed.0) ∙ c.if-index.false in
    let own : r.name ≡ n = (bytes_decides r.name n).0 (subst (λ x. is_row_named n x ≡ true) (sym row) (placed.1 r)) in
    λ i. record { name = (ap (λ x. x.name) set ∙ own) i; is_in = (ap (λ x. x.is_in) set) i; total = (ap (λ x. x.total) set) i; offers = (is_row.out is_out).0 i; booked = (is_row.out is_out).1 i }))))
