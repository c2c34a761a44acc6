use Rattle.std.proofs.Common.{get_or, refl, sym, ap, subst, ◌∙◌}
use Rattle.std.specs.List.{IsDistinct}
use Rattle.offer_book.specs.Lists.{same_id}
use Rattle.offer_tables.specs.Accounts.{is_of_framework}
use Rattle.offer_tables.proofs.Only.{index_fails_at, index_nowhere, index_passes_at}
use Rattle.offer_tables.proofs.book.OfferBook.forget_at.Goals as goal

pub returns-then-is_of : goal.returns-then-is_of
returns-then-is_of c =
    let e = c.in-Some.located.now in
    let k = c.index-tasks_on-index.result in
    c.drop_task.ensures
    ∙ index_passes_at (λ x. x.job.key) (λ a. a.booked) (λ l a. record a { booked = l }) (λ a. refl) (is_of_framework c.args.framework) k c.args.place c.args.index c.args.self.now c.requires
    (c.index-tasks_on-index.is ∙ ap (λ ks. get_or ks c.args.index k) c.tasks_on.ensures.keys) e.item e.place (sym c.is_of.ensures ∙ c.if-is_of.true) (subst (IsDistinct same_id) c.tasks_on.ensures.keys c.tasks_on.ensures.apart) c.in-Some.ensures.1

pub returns-else-is_of : goal.returns-else-is_of
returns-else-is_of c =
    let e = c.in-Some.located.now in
    let k = c.index-tasks_on-index.result in
    sym (index_fails_at (λ x. x.job.key) (λ a. a.booked) (λ l a. record a { booked = l }) (λ a. refl) (is_of_framework c.args.framework) k c.args.place c.args.index c.args.self.now c.requires
    (c.index-tasks_on-index.is ∙ ap (λ ks. get_or ks c.args.index k) c.tasks_on.ensures.keys) e.item e.place (sym c.is_of.ensures ∙ c.if-is_of.false) c.in-Some.ensures.1)

pub returns-in_default : goal.returns-in_default
returns-in_default c =
    let k = c.index-tasks_on-index.result in
    absurd (index_nowhere (λ x. x.job.key) (λ a. a.booked) (λ l a. record a { booked = l }) (λ a. refl) (is_of_framework c.args.framework) k c.args.place c.args.index c.args.self.now c.requires
    (c.index-tasks_on-index.is ∙ ap (λ ks. get_or ks c.args.index k) c.tasks_on.ensures.keys) c.in_default.ensures)
