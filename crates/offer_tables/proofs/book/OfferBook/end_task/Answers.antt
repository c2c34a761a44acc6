use Rattle.std.proofs.Common.{◌≡◌, true, false, zero, is_some, None, Some, Ok, map, refl, sym, ap, ◌∙◌}
use Rattle.offer_book.specs.Lists.{find_from}
use Rattle.offer_book.specs.Changes.{ended}
use Rattle.offer_book.proofs.Changing.{ended_stays}
use Rattle.offer_book.proofs.Taking.{here_is}
use Rattle.offer_tables.specs.Accounts.{unended_rows, with_ended}
use Rattle.offer_tables.specs.Books.{is_booked}
use Rattle.offer_tables.specs.Rows.{accounts}
use Rattle.offer_tables.proofs.Booking.{booked_is}
use Rattle.offer_tables.proofs.Books.{book_ended, ended_gone, map-same, task_within, view_mapped}
use Rattle.offer_tables.proofs.book.OfferBook.end_task.Goals as goal

pub returns-in_default-clause-refused : goal.returns-in_default-clause-refused
returns-in_default-clause-refused c =
    let none : find_from (λ x. x.job.key) zero c.args.key c.self.inside.tasks ≡ None = sym c.in_default.ensures.found in
    let no : is_booked c.args.key c.args.self.now ≡ false =
    ap (is_booked c.args.key) (sym c.self.view_is) ∙ booked_is c.args.key c.self.inside.agents.items c.self.inside.offers c.self.inside.tasks zero c.self.invariant.each ∙ ap is_some none in
    rw no refl

pub give_back_task-requires : goal.give_back_task-requires
give_back_task-requires c =
    let e = c.in-Some.located.now in
    let at : find_from (λ x. x.job.key) zero c.args.key c.self.inside.tasks ≡ Some e = sym c.in-Some.ensures.found in
    task_within c.self.inside.agents.items c.self.inside.offers c.self.inside.tasks e.place c.args.key e.item c.self.invariant.each
    (here_is (λ x. x.job.key) c.self.inside.tasks c.args.key e c.find.ensures.once at).first_there

pub invariant_of-self : goal.invariant_of-self
invariant_of-self c =
    let e = c.in-Some.located.now in
    book_ended (ended c.args.key) c.self.inside.names.keys c.self.inside.agents.items c.give_back_task.new.agents.items c.self.inside.offers c.self.inside.tasks c.end.new.self c.args.key e
    (ended_stays c.args.key) (ended_gone c.args.key) c.self.invariant c.find.ensures.once (sym c.in-Some.ensures.found) c.end.ensures c.give_back_task.ensures

pub returns-clause-ok : goal.returns-clause-ok
returns-clause-ok c =
    let e = c.in-Some.located.now in
    let rs = c.self.inside.agents.items in
    let os = c.self.inside.offers in
    let bs = c.self.inside.tasks in
    let at : find_from (λ x. x.job.key) zero c.args.key bs ≡ Some e = sym c.in-Some.ensures.found in
    let yes : is_booked c.args.key c.args.self.now ≡ true =
    ap (is_booked c.args.key) (sym c.self.view_is) ∙ booked_is c.args.key rs os bs zero c.self.invariant.each ∙ ap is_some at in
    rw yes (ap (λ x. Ok x) (ap (map (with_ended c.args.key)) (sym c.self.view_is)
    ∙ sym (view_mapped (unended_rows e.item) (λ l. l) (map (ended c.args.key)) (with_ended c.args.key) rs c.give_back_task.new.agents.items os bs e.place c.give_back_task.ensures c.self.invariant.each
    (λ r ps cs. refl))
    ∙ (λ i. accounts c.give_back_task.new.agents.items (map-same os i) (sym c.end.ensures i))))
