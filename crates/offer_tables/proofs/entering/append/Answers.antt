use Rattle.std.proofs.Common.{◌≡◌, true, false, bytes_eq, ◌++◌, ◌∷◌, [], refl, sym, ap, subst, ◌∙◌, arith}
use Rattle.std.specs.List.{list_any}
use Rattle.offer_book.proofs.Standing.{on_err}
use Rattle.offer_tables.specs.Rows.{IsBook, accounts}
use Rattle.offer_tables.specs.declared.agents.AgentRow.{AgentRow}
use Rattle.offer_tables.proofs.Amounts.{row_fresh}
use Rattle.offer_tables.proofs.Changed.{enough_offers, enough_tasks}
use Rattle.offer_tables.proofs.Appending.{book_append, new_name, same_book, same_seen, seen_append}
use Rattle.offer_tables.proofs.entering.append.Goals as goal

pub add_places-requires-clause-offers : goal.add_places-requires-clause-offers
add_places-requires-clause-offers c = omega (arith, enough_offers c.args.agents.now.items c.args.offers.now c.args.tasks.now c.requires.book.each)

pub add_places-requires-clause-tasks : goal.add_places-requires-clause-tasks
add_places-requires-clause-tasks c = omega (arith, enough_tasks c.args.agents.now.items c.args.offers.now c.args.tasks.now c.requires.book.each)

pub returns-in_err-reserve-clause-book : goal.returns-in_err-reserve-clause-book
returns-in_err-reserve-clause-book c = subst (λ rs. IsBook c.args.names.now.keys rs c.args.offers.now c.args.tasks.now) (sym c.reserve.ensures.items) c.requires.book

pub returns-in_err-reserve-clause-err : goal.returns-in_err-reserve-clause-err
returns-in_err-reserve-clause-err c = on_err _ (ap (λ rs. accounts rs c.args.offers.now c.args.tasks.now) c.reserve.ensures.items)

pub returns-in_err-add_places-clause-book : goal.returns-in_err-add_places-clause-book
returns-in_err-add_places-clause-book c =
    subst (λ rs. IsBook c.args.names.now.keys rs c.add_places.new.offers c.add_places.new.tasks) (sym c.reserve.ensures.items)
    (same_book c.args.names.now.keys c.args.agents.now.items c.args.offers.now c.add_places.new.offers c.args.tasks.now c.add_places.new.tasks c.requires.book c.add_places.ensures.same_offers c.add_places.ensures.same_tasks)

pub returns-in_err-add_places-clause-err : goal.returns-in_err-add_places-clause-err
returns-in_err-add_places-clause-err c =
    on_err _ (ap (λ rs. accounts rs c.add_places.new.offers c.add_places.new.tasks) c.reserve.ensures.items
    ∙ same_seen c.args.names.now.keys c.args.agents.now.items c.args.offers.now c.add_places.new.offers c.args.tasks.now c.add_places.new.tasks c.requires.book c.add_places.ensures.same_offers c.add_places.ensures.same_tasks)

pub returns-in_err-insert-clause-book : goal.returns-in_err-insert-clause-book
returns-in_err-insert-clause-book c =
    subst (λ ks. IsBook ks c.reserve.new.self.items c.add_places.new.offers c.add_places.new.tasks) (sym c.in_err-insert.ensures.err)
    (subst (λ rs. IsBook c.args.names.now.keys rs c.add_places.new.offers c.add_places.new.tasks) (sym c.reserve.ensures.items)
    (same_book c.args.names.now.keys c.args.agents.now.items c.args.offers.now c.add_places.new.offers c.args.tasks.now c.add_places.new.tasks c.requires.book c.add_places.ensures.same_offers c.add_places.ensures.same_tasks))

pub returns-in_err-insert-clause-err : goal.returns-in_err-insert-clause-err
returns-in_err-insert-clause-err c =
    on_err _ (ap (λ rs. accounts rs c.add_places.new.offers c.add_places.new.tasks) c.reserve.ensures.items
    ∙ same_seen c.args.names.now.keys c.args.agents.now.items c.args.offers.now c.add_places.new.offers c.args.tasks.now c.add_places.new.tasks c.requires.book c.add_places.ensures.same_offers c.add_places.ensures.same_tasks)

pub returns-clause-book : goal.returns-clause-book
returns-clause-book c =
    let rs = c.args.agents.now.items in
    let os = c.add_places.new.offers in
    let bs = c.add_places.new.tasks in
    let r : AgentRow = record { name = c.in_ok-copy.field-0; is_in = true; total = c.args.total; free = c.whole.result } in
    let is = same_book c.args.names.now.keys rs c.args.offers.now os c.args.tasks.now bs c.requires.book c.add_places.ensures.same_offers c.add_places.ensures.same_tasks in
    let absent : list_any (bytes_eq c.args.name) c.args.names.now.keys ≡ false = ap (list_any (bytes_eq c.args.name)) c.requires.book.named ∙ new_name c.args.name rs c.requires.new in
    subst (λ rows. IsBook c.insert.new.self.keys rows os bs) (sym (c.push_reserved.ensures.items ∙ ap (λ l. l ++ r ∷ []) c.reserve.ensures.items))
    (book_append c.args.names.now.keys c.insert.new.self.keys rs os bs r c.args.name is (omega arith) (omega arith) (row_fresh r c.whole.ensures) c.in_ok-copy.ensures c.requires.new
    (c.in_ok-insert.ensures.keys ∙ rw absent refl))

pub returns-clause-ok : goal.returns-clause-ok
returns-clause-ok c =
    let rs = c.args.agents.now.items in
    let os = c.add_places.new.offers in
    let bs = c.add_places.new.tasks in
    let r : AgentRow = record { name = c.in_ok-copy.field-0; is_in = true; total = c.args.total; free = c.whole.result } in
    let is = same_book c.args.names.now.keys rs c.args.offers.now os c.args.tasks.now bs c.requires.book c.add_places.ensures.same_offers c.add_places.ensures.same_tasks in
    ap (λ rows. accounts rows os bs) (c.push_reserved.ensures.items ∙ ap (λ l. l ++ r ∷ []) c.reserve.ensures.items)
    ∙ seen_append rs os bs r is.each (omega arith) (omega arith)
    ∙ (λ i. same_seen c.args.names.now.keys rs c.args.offers.now os c.args.tasks.now bs c.requires.book c.add_places.ensures.same_offers c.add_places.ensures.same_tasks i
    ++ record { name = c.in_ok-copy.ensures i; is_in = true; total = c.args.total; offers = []; booked = [] } ∷ [])
