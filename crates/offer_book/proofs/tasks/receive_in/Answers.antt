use Rattle.std.proofs.Common.{◌≡◌, cond, None, Some, IsSome, refl, sym, ap, subst, ◌∙◌}
use Rattle.std.specs.Map.{lookup}
use Rattle.messages.specs.declared.task.Booked.{Booked}
use Rattle.cluster_model.specs.Sides.{received_update}
use Rattle.offer_book.specs.Lists.{Located, same_id}
use Rattle.offer_book.proofs.Changing.{received_stays, same_turned}
use Rattle.offer_book.proofs.Standing.{written, unwritten}
use Rattle.offer_book.proofs.tasks.receive_in.Goals as goal

pub receive_one-requires-clause-its : goal.receive_one-requires-clause-its
receive_one-requires-clause-its c = same_turned c.args.update.now.key c.in-Some.located.now.item.job.key ∙ c.requires.theirs c.args.update.now.key c.in-Some.located.now (sym c.in-Some.ensures.value)

pub returns-in-Some : goal.returns-in-Some
returns-in-Some c =
    let u = c.args.update.now in
    let es = c.args.by_key.now.entries in
    let e = c.in-Some.located.now in
    let w : Located Booked = record { place = e.place; item = c.receive_one.new.task } in
    let here : lookup (same_id u.key) es ≡ Some e = sym c.in-Some.ensures.value in
    written (λ x. x.job.key) es (c.get_mut.follows.lender w).entries (received_update u.key u.k u.state u.ended) u.key e (received_stays u.key u.k u.state u.ended) c.requires.theirs here
    (λ q. ((c.get_mut.follows.holds w).3 (subst IsSome c.in-Some.ensures.value refl)).0 q
    ∙ ap (λ (v : Booked). cond (same_id u.key q) (Some (record { place = e.place; item = v })) (lookup (same_id q) es)) c.receive_one.ensures)

pub returns-in_default : goal.returns-in_default
returns-in_default c =
    let u = c.args.update.now in
    let es = c.args.by_key.now.entries in
    let none : lookup (same_id u.key) es ≡ None = sym (rw c.in_default.is at c.get_mut.ensures.value) in
    λ q. ap (λ m. lookup (same_id q) m.entries) c.get_mut.follows.holds-at-none
    ∙ unwritten (λ x. x.job.key) es (received_update u.key u.k u.state u.ended) u.key (received_stays u.key u.k u.state u.ended) c.requires.theirs none q
