use Rattle.std.proofs.Common.{◌≡◌, true, false, zero, is_some, None, Some, Ok, map, refl, sym, ap, ◌∙◌}
use Rattle.offer_book.specs.Lists.{find_from, without}
use Rattle.offer_book.proofs.Taking.{here_is}
use Rattle.offer_tables.specs.Accounts.{unended_rows, without_key}
use Rattle.offer_tables.specs.Books.{is_booked}
use Rattle.offer_tables.specs.Rows.{account, accounts}
use Rattle.offer_tables.proofs.Booking.{booked_is}
use Rattle.offer_tables.proofs.Books.{book_without_task, map-same, task_within, view_mapped, without_key_is}
use Rattle.offer_tables.proofs.book.OfferBook.forget.Goals as goal

pub returns-in_default-clause-refused : goal.returns-in_default-clause-refused
returns-in_default-clause-refused c =
    let none : find_from (λ x. x.job.key) zero c.args.key c.self.inside.tasks ≡ None = sym c.remove.ensures.removed ∙ c.in_default.is in
    let no : is_booked c.args.key c.args.self.now ≡ false =
    ap (is_booked c.args.key) (sym c.self.view_is) ∙ booked_is c.args.key c.self.inside.agents.items c.self.inside.offers c.self.inside.tasks zero c.self.invariant.each ∙ ap is_some none in
    rw no refl

pub give_back_task-requires : goal.give_back_task-requires
give_back_task-requires c =
    let e = c.in-Some.located in
    let at : find_from (λ x. x.job.key) zero c.args.key c.self.inside.tasks ≡ Some e = sym c.remove.ensures.removed ∙ c.in-Some.is in
    task_within c.self.inside.agents.items c.self.inside.offers c.self.inside.tasks e.place c.args.key e.item c.self.invariant.each
    (here_is (λ x. x.job.key) c.self.inside.tasks c.args.key e c.remove.ensures.once at).first_there

pub invariant_of-self-2 : goal.invariant_of-self-2
invariant_of-self-2 c =
    let e = c.in-Some.located in
    book_without_task c.self.inside.names.keys c.self.inside.agents.items c.give_back_task.new.agents.items c.self.inside.offers c.self.inside.tasks c.remove.new.self c.args.key e
    c.self.invariant c.remove.ensures.once (sym c.remove.ensures.removed ∙ c.in-Some.is) c.remove.ensures.others c.give_back_task.ensures

pub returns-clause-ok : goal.returns-clause-ok
returns-clause-ok c =
    let e = c.in-Some.located in
    let rs = c.self.inside.agents.items in
    let os = c.self.inside.offers in
    let bs = c.self.inside.tasks in
    let at : find_from (λ x. x.job.key) zero c.args.key bs ≡ Some e = sym c.remove.ensures.removed ∙ c.in-Some.is in
    let yes : is_booked c.args.key c.args.self.now ≡ true =
    ap (is_booked c.args.key) (sym c.self.view_is) ∙ booked_is c.args.key rs os bs zero c.self.invariant.each ∙ ap is_some at in
    rw yes (ap (λ x. Ok x) (ap (map (without_key c.args.key)) (sym c.self.view_is)
    ∙ sym (view_mapped (unended_rows e.item) (λ l. l) (without (λ x. x.job.key) c.args.key) (without_key c.args.key) rs c.give_back_task.new.agents.items os bs e.place c.give_back_task.ensures c.self.invariant.each
    (λ r ps cs. ap (λ l. account r ps l) (without_key_is c.args.key cs)))
    ∙ (λ i. accounts c.give_back_task.new.agents.items (map-same os i) (sym c.remove.ensures.others i))))
