use Rattle.std.proofs.Common.{◌≡◌, ◌-◌, zero, get_or, sym, ap, subst, ◌∙◌, arith}
use Rattle.offer_book.proofs.Taking.{here_is}
use Rattle.offer_tables.specs.Found.{task_of}
use Rattle.offer_tables.proofs.Booking.{task_found, task_nowhere}
use Rattle.offer_tables.proofs.Books.{task_within}
use Rattle.offer_tables.proofs.book.OfferBook.task_of.Goals as goal

pub returns-in_default : goal.returns-in_default
returns-in_default c =
    sym (ap (task_of c.args.key) (sym c.self.view_is) ∙ task_nowhere c.args.key c.self.inside.agents.items c.self.inside.offers c.self.inside.tasks zero c.self.invariant.each (sym c.in_default.ensures.found))

pub index-row-requires : goal.index-row-requires
index-row-requires c =
    let e = c.in-Some.located.now in
    omega (
      arith,
      task_within c.self.inside.agents.items c.self.inside.offers c.self.inside.tasks e.place c.args.key e.item c.self.invariant.each
          (here_is (λ x. x.job.key) c.self.inside.tasks c.args.key e c.find.ensures.once (sym c.in-Some.ensures.found)).first_there,
    )

pub returns : goal.returns
returns c =
    let e = c.in-Some.located.now in
    let r = c.index-row.result.now in
    let none : e.place - zero ≡ e.place = omega arith in
    let row : r ≡ get_or c.self.inside.agents.items (e.place - zero) r = subst (λ k. r ≡ get_or c.self.inside.agents.items k r) (sym none) c.index-row.ensures in
    sym (ap (task_of c.args.key) (sym c.self.view_is) ∙ task_found c.args.key c.self.inside.agents.items c.self.inside.offers c.self.inside.tasks zero e r c.self.invariant.each (sym c.in-Some.ensures.found) row)
