use Rattle.std.proofs.Common.{◌≡◌, zero, true, Option, None, Some, is_some, MatchOption, option_copied, sym, ap, subst, ◌∙◌}
use Rattle.names_core.specs.Ids.{same}
use Rattle.messages.specs.declared.task.Booked.{Booked}
use Rattle.offer_book.specs.declared.located.Located.{Located}
use Rattle.std.specs.List.{list_any}
use Rattle.offer_book.specs.Lists.{find_from, list_at}
use Rattle.offer_book.proofs.Taking.{here_is}
use Rattle.offer_tables.specs.Accounts.{has_key}
use Rattle.offer_tables.specs.Found.{tasks_on}
use Rattle.offer_tables.proofs.Booking.{booked_first, tasks_there}
use Rattle.offer_book.proofs.Changing.{same_turned}
use Rattle.offer_book.proofs.Standing.{find_has}
use Rattle.offer_tables.specs.Places.{IsNowhere, IsOnlyFrom}
use Rattle.offer_tables.proofs.Whereabouts.{no_task, only_task}
use Rattle.offer_tables.proofs.book.OfferBook.task_place.Goals as goal

pub returns : goal.returns
returns c = by (option_copied c.find.result) c.find.ensures.found
  where
    by : (w : Option (Located Booked)) → w ≡ find_from (λ x. x.job.key) zero c.args.key c.self.inside.tasks
        → MatchOption w (IsNowhere (λ x. x.job.key) (λ a. a.booked) c.args.key c.args.self.now)
        (λ e. (same e.item.job.key c.args.key ≡ true) × IsOnlyFrom (λ x. x.job.key) (λ a. a.booked) zero c.args.key e.place e.item c.args.self.now
        × (list_any (has_key c.args.key) (tasks_on e.place c.args.self.now) ≡ true))
    by None is = subst (IsNowhere (λ x. x.job.key) (λ a. a.booked) c.args.key) c.self.view_is (no_task c.args.key c.self.inside.agents.items c.self.inside.offers c.self.inside.tasks zero c.self.invariant.each (sym is))
    by (Some e) is = (
      same_turned c.args.key e.item.job.key ∙ find_has (λ x. x.job.key) c.self.inside.tasks zero c.args.key e (sym is),
      subst (IsOnlyFrom (λ x. x.job.key) (λ a. a.booked) zero c.args.key e.place e.item) c.self.view_is
          (only_task c.args.key c.self.inside.agents.items c.self.inside.offers c.self.inside.tasks zero e c.self.invariant.each c.find.ensures.once (sym is)),
      ap (λ as_. list_any (has_key c.args.key) (tasks_on e.place as_)) (sym c.self.view_is)
          ∙ ap (list_any (has_key c.args.key)) (sym (tasks_there e.place c.self.inside.agents.items c.self.inside.offers c.self.inside.tasks c.self.invariant.each))
          ∙ booked_first c.args.key (list_at e.place c.self.inside.tasks)
          ∙ ap is_some (here_is (λ x. x.job.key) c.self.inside.tasks c.args.key e c.find.ensures.once (sym is)).first_there,
    )
