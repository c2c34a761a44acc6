use Rattle.std.proofs.Common.{◌≡◌, ◌-◌, zero, get_or, None, Some, sym, ap, subst, ◌∙◌, arith}
use Rattle.std.specs.Option.{option_copied}
use Rattle.offer_book.specs.Held.{IsHeld}
use Rattle.offer_book.proofs.Taking.{here_is}
use Rattle.offer_tables.specs.Held.{held}
use Rattle.offer_tables.proofs.Holding.{held_none, held_some}
use Rattle.offer_tables.proofs.Books.{task_within}
use Rattle.offer_tables.proofs.book.OfferBook.held.Goals as goal

pub returns-in_default : goal.returns-in_default
returns-in_default c =
    let is : IsHeld c.args.framework c.args.name.now c.self.inside.tasks None = subst (λ w. IsHeld c.args.framework c.args.name.now c.self.inside.tasks (option_copied w)) c.in_default.is c.held.ensures.held in
    sym (ap (held c.args.framework c.args.name.now) (sym c.self.view_is)
    ∙ held_none c.args.framework c.args.name.now c.self.inside.agents.items c.self.inside.offers c.self.inside.tasks c.self.invariant.each c.held.ensures.once is)

pub index-row-requires : goal.index-row-requires
index-row-requires c =
    let e = c.in-Some.located.now in
    let is : IsHeld c.args.framework c.args.name.now c.self.inside.tasks (Some e) = subst (λ w. IsHeld c.args.framework c.args.name.now c.self.inside.tasks (option_copied w)) c.in-Some.is c.held.ensures.held in
    omega (
      arith,
      task_within c.self.inside.agents.items c.self.inside.offers c.self.inside.tasks e.place e.item.job.key e.item c.self.invariant.each
          (here_is (λ x. x.job.key) c.self.inside.tasks e.item.job.key e c.held.ensures.once is.0.booked).first_there,
    )

pub returns : goal.returns
returns c =
    let e = c.in-Some.located.now in
    let r = c.index-row.result.now in
    let is : IsHeld c.args.framework c.args.name.now c.self.inside.tasks (Some e) = subst (λ w. IsHeld c.args.framework c.args.name.now c.self.inside.tasks (option_copied w)) c.in-Some.is c.held.ensures.held in
    let none : e.place - zero ≡ e.place = omega arith in
    let row : r ≡ get_or c.self.inside.agents.items (e.place - zero) r = subst (λ k. r ≡ get_or c.self.inside.agents.items k r) (sym none) c.index-row.ensures in
    sym (ap (held c.args.framework c.args.name.now) (sym c.self.view_is)
    ∙ held_some c.args.framework c.args.name.now c.self.inside.agents.items c.self.inside.offers c.self.inside.tasks c.self.invariant.each c.held.ensures.once e r is row)
