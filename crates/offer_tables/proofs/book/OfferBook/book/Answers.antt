use Rattle.std.proofs.Common.{◌≡◌, zero, true, false, ◌++◌, ◌∷◌, [], get_or, is_some, None, Some, Ok, sym, ap, subst, ◌∙◌, arith}
use Rattle.quantity.specs.Rows.{covers}
use Rattle.offer_book.specs.Lists.{list_at, find_from}
use Rattle.offer_tables.specs.Accounts.{taken_by, unended_rows, with_task}
use Rattle.offer_tables.specs.Books.{booked}
use Rattle.offer_tables.specs.Rows.{IsLeft, IsPlaceOf, TakesMore, account}
use Rattle.offer_tables.proofs.Amounts.{room_is, row_booked}
use Rattle.offer_tables.proofs.Changed.{enough_tasks, is_in_there, row_at, same_row, settled, slot}
use Rattle.offer_tables.proofs.Booking.{booked_unknown, booked_twice, booked_no_room, booked_ok}
use Rattle.offer_tables.proofs.Books.{at_place-same, book_changed, by_memory, copied_is, view_changed}
use Rattle.offer_tables.proofs.book.OfferBook.book.Goals as goal

pub returns-in_default-clause-refused : goal.returns-in_default-clause-refused
returns-in_default-clause-refused c =
    let n = c.args.name.now in
    let placed : IsPlaceOf n c.self.inside.agents.items None = subst (λ rs. IsPlaceOf n rs None) c.deref.ensures.value c.in_default.ensures in
    ap (booked n c.args.task) (sym c.self.view_is) ∙ booked_unknown n c.self.inside.agents.items c.self.inside.offers c.self.inside.tasks c.self.invariant.each c.args.task placed

pub returns-then-is_some-clause-refused : goal.returns-then-is_some-clause-refused
returns-then-is_some-clause-refused c =
    let n = c.args.name.now in
    let rs = c.self.inside.agents.items in
    let placed : IsPlaceOf n rs (Some c.in-Some.place) = subst (λ x. IsPlaceOf n x (Some c.in-Some.place)) c.deref.ensures.value c.in-Some.ensures in
    let twice : is_some (find_from (λ x. x.job.key) zero c.args.task.job.key c.self.inside.tasks) ≡ true =
    ap is_some (sym c.find.ensures.found) ∙ copied_is c.find.result ∙ sym c.is_some.ensures ∙ c.if-is_some.true in
    ap (booked n c.args.task) (sym c.self.view_is)
    ∙ booked_twice n rs c.self.inside.offers c.self.inside.tasks c.self.invariant.each c.in-Some.place placed (get_or rs c.in-Some.place (slot rs c.in-Some.place placed.0))
    (settled rs c.in-Some.place placed.0) c.args.task twice

pub returns-then-not-has_room_for-clause-refused : goal.returns-then-not-has_room_for-clause-refused
returns-then-not-has_room_for-clause-refused c =
    let n = c.args.name.now in
    let rs = c.self.inside.agents.items in
    let placed : IsPlaceOf n rs (Some c.in-Some.place) = subst (λ x. IsPlaceOf n x (Some c.in-Some.place)) c.deref.ensures.value c.in-Some.ensures in
    let once : is_some (find_from (λ x. x.job.key) zero c.args.task.job.key c.self.inside.tasks) ≡ false =
    ap is_some (sym c.find.ensures.found) ∙ copied_is c.find.result ∙ sym c.is_some.ensures ∙ c.if-is_some.false in
    ap (booked n c.args.task) (sym c.self.view_is)
    ∙ booked_no_room n rs c.self.inside.offers c.self.inside.tasks c.self.invariant.each c.in-Some.place placed c.index-row.result.now c.index-row.ensures c.args.task
    c.has_room_for.ensures.ordered once (sym c.has_room_for.ensures.room ∙ c.if-not-has_room_for.true)

pub push-requires-clause-within : goal.push-requires-clause-within
push-requires-clause-within c =
    let n = c.args.name.now in
    let rs = c.self.inside.agents.items in
    let placed : IsPlaceOf n rs (Some c.in-Some.place) = subst (λ x. IsPlaceOf n x (Some c.in-Some.place)) c.deref.ensures.value c.in-Some.ensures in
    omega (arith, placed.0, enough_tasks rs c.self.inside.offers c.self.inside.tasks c.self.invariant.each)

pub returns-in_err-push-clause-refused : goal.returns-in_err-push-clause-refused
returns-in_err-push-clause-refused c =
    let n = c.args.name.now in
    let rs = c.self.inside.agents.items in
    let placed : IsPlaceOf n rs (Some c.in-Some.place) = subst (λ x. IsPlaceOf n x (Some c.in-Some.place)) c.deref.ensures.value c.in-Some.ensures in
    let once : is_some (find_from (λ x. x.job.key) zero c.args.task.job.key c.self.inside.tasks) ≡ false =
    ap is_some (sym c.find.ensures.found) ∙ copied_is c.find.result ∙ sym c.is_some.ensures ∙ c.if-is_some.false in
    by_memory c.from_residual.result _ _ c.from_residual.ensures.1
    (ap (booked n c.args.task) (sym c.self.view_is)
    ∙ booked_ok n rs c.self.inside.offers c.self.inside.tasks c.self.invariant.each c.in-Some.place placed c.index-row.result.now c.index-row.ensures c.args.task
    c.has_room_for.ensures.ordered once (sym c.has_room_for.ensures.room ∙ c.if-not-has_room_for.false))

pub invariant_of-self-2 : goal.invariant_of-self-2
invariant_of-self-2 c =
    let n = c.args.name.now in
    let p = c.in-Some.place in
    let rs = c.self.inside.agents.items in
    let os = c.self.inside.offers in
    let bs = c.self.inside.tasks in
    let o = c.args.task in
    let placed : IsPlaceOf n rs (Some p) = subst (λ x. IsPlaceOf n x (Some p)) c.deref.ensures.value c.in-Some.ensures in
    let at = c.index-row.ensures in
    let is = row_at rs os bs p c.index-row.result.now c.self.invariant.each placed.0 at in
    let room = sym (room_is c.index-row.result.now (list_at p os) (list_at p bs) (unended_rows o) c.has_room_for.ensures.ordered is) ∙ sym c.has_room_for.ensures.room ∙ c.if-not-has_room_for.false in
    book_changed (IsLeft c.with_task-free.result) (λ l. l) (λ l. l ++ o ∷ []) c.self.inside.names.keys rs c.set_free.new.agents.items os os bs c.push.new.self p
    (λ r s set. ap (λ x. x.name) set) c.set_free.ensures c.self.invariant (sym (at_place-same p os)) c.in_ok-push.ensures.ok
    (λ r s row set is_row. row_booked r s c.with_task-free.result (list_at p os) (list_at p bs) o is_row (is_in_there n rs p r placed row) set
    (subst (λ x. covers x.total (unended_rows o ++ taken_by (list_at p os) (list_at p bs)) ≡ true) (same_row rs p c.index-row.result.now r at row placed.0) room)
    (subst (λ x. TakesMore x.total (unended_rows o) x.free c.with_task-free.result) (same_row rs p c.index-row.result.now r at row placed.0) c.with_task-free.ensures))

pub returns-clause-ok : goal.returns-clause-ok
returns-clause-ok c =
    let n = c.args.name.now in
    let p = c.in-Some.place in
    let rs = c.self.inside.agents.items in
    let os = c.self.inside.offers in
    let bs = c.self.inside.tasks in
    let o = c.args.task in
    let placed : IsPlaceOf n rs (Some p) = subst (λ x. IsPlaceOf n x (Some p)) c.deref.ensures.value c.in-Some.ensures in
    let once : is_some (find_from (λ x. x.job.key) zero o.job.key bs) ≡ false =
    ap is_some (sym c.find.ensures.found) ∙ copied_is c.find.result ∙ sym c.is_some.ensures ∙ c.if-is_some.false in
    ap (booked n o) (sym c.self.view_is)
    ∙ booked_ok n rs os bs c.self.invariant.each p placed c.index-row.result.now c.index-row.ensures o c.has_room_for.ensures.ordered once (sym c.has_room_for.ensures.room ∙ c.if-not-has_room_for.false)
    ∙ ap (λ x. Ok x) (sym (view_changed (IsLeft c.with_task-free.result) (λ l. l) (λ l. l ++ o ∷ []) (with_task o) rs c.set_free.new.agents.items os os bs c.push.new.self p
    c.set_free.ensures c.self.invariant.each (sym (at_place-same p os)) c.in_ok-push.ensures.ok
    (λ r s ps cs row set is_row. λ i. account (set i) ps (cs ++ o ∷ []))))
