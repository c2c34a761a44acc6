use Rattle.std.proofs.Common.{◌≡◌, true, cond, None, Some, IsSome, refl, sym, ap, subst, ◌∙◌}
use Rattle.std.specs.Map.{lookup}
use Rattle.messages.specs.declared.task.Booked.{Booked}
use Rattle.offer_book.specs.Lists.{Located, same_id}
use Rattle.offer_book.specs.Changes.{ended}
use Rattle.offer_book.proofs.Changing.{ended_stays, ended_here}
use Rattle.offer_book.proofs.Standing.{written, unwritten}
use Rattle.offer_book.proofs.tasks.end_in.Goals as goal

pub returns-in-Some : goal.returns-in-Some
returns-in-Some c =
    let key = c.args.key in
    let es = c.args.by_key.now.entries in
    let e = c.in-Some.located.now in
    let w : Located Booked = record { place = e.place; item = record { job = e.item.job; ended = true; received = e.item.received; state = e.item.state } } in
    let here : lookup (same_id key) es ≡ Some e = sym c.in-Some.ensures.value in
    let its : same_id key e.item.job.key ≡ true = c.requires key e here in
    written (λ x. x.job.key) es (c.get_mut.follows.lender w).entries (ended key) key e (ended_stays key) c.requires here
    (λ q. ((c.get_mut.follows.holds w).3 (subst IsSome c.in-Some.ensures.value refl)).0 q ∙ ap (λ v. cond (same_id key q) (Some v) (lookup (same_id q) es)) (sym (ended_here key e its)))

pub returns-in_default : goal.returns-in_default
returns-in_default c =
    let es = c.args.by_key.now.entries in
    let none : lookup (same_id c.args.key) es ≡ None = sym (rw c.in_default.is at c.get_mut.ensures.value) in
    λ q. ap (λ m. lookup (same_id q) m.entries) c.get_mut.follows.holds-at-none ∙ unwritten (λ x. x.job.key) es (ended c.args.key) c.args.key (ended_stays c.args.key) c.requires none q
