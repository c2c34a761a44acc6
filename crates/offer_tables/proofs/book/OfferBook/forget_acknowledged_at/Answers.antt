use Rattle.std.proofs.Common.{◌&&◌, ◌==◌, true, false, not, filter, refl, sym, ap, ◌∙◌}
use Rattle.offer_tables.proofs.Only.{at_test, nowhere_at, untouched}
use Rattle.offer_tables.proofs.Ridding.{forgotten_implies, forgotten_is, is_forgotten}
use Rattle.offer_tables.proofs.book.OfferBook.forget_acknowledged_at.Goals as goal

pub returns-then-is_acknowledged_at : goal.returns-then-is_acknowledged_at
returns-then-is_acknowledged_at c =
    let e = c.in-Some.located.now in
    c.drop_task.ensures
    ∙ at_test (λ x. x.job.key) (λ a. a.booked) (λ bs a. record a { booked = bs }) (λ a. refl) (is_forgotten c.args.key c.args.k) c.args.key (forgotten_implies c.args.key c.args.k) e.item e.place c.args.place c.args.self.now c.in-Some.ensures.1 true
    (sym c.if-is_acknowledged_at.true ∙ c.is_acknowledged_at.ensures ∙ ap (λ v. e.place == c.args.place && v) (sym (forgotten_is c.args.key c.args.k e.item c.in-Some.ensures.0)))

pub returns-else-is_acknowledged_at : goal.returns-else-is_acknowledged_at
returns-else-is_acknowledged_at c =
    let e = c.in-Some.located.now in
    at_test (λ x. x.job.key) (λ a. a.booked) (λ bs a. record a { booked = bs }) (λ a. refl) (is_forgotten c.args.key c.args.k) c.args.key (forgotten_implies c.args.key c.args.k) e.item e.place c.args.place c.args.self.now c.in-Some.ensures.1 false
    (sym c.if-is_acknowledged_at.false ∙ c.is_acknowledged_at.ensures ∙ ap (λ v. e.place == c.args.place && v) (sym (forgotten_is c.args.key c.args.k e.item c.in-Some.ensures.0)))

pub returns-in_default : goal.returns-in_default
returns-in_default c =
    sym (nowhere_at (λ x. x.job.key) (λ a. a.booked) (λ bs a. record a { booked = bs }) (λ a. refl) (λ bs. filter (λ b. not (is_forgotten c.args.key c.args.k b)) bs) c.args.key
    (untouched (λ x. x.job.key) (is_forgotten c.args.key c.args.k) c.args.key (forgotten_implies c.args.key c.args.k)) c.args.place c.args.self.now c.in_default.ensures)
