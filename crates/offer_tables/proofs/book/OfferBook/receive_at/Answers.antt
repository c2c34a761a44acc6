use Rattle.std.proofs.Common.{map, zero, refl, sym, ◌∙◌, arith}
use Rattle.cluster_model.specs.Sides.{received_update}
use Rattle.offer_tables.proofs.Only.{here_at, nowhere_at, other_at}
use Rattle.offer_tables.proofs.Ridding.{others_stay}
use Rattle.offer_tables.proofs.book.OfferBook.receive_at.Goals as goal

pub returns-then-located-place : goal.returns-then-located-place
returns-then-located-place c =
    let e = c.in-Some.located.now in
    let u = c.args.update.now in
    c.receive.ensures
    ∙ here_at (λ x. x.job.key) (λ a. a.booked) (λ bs a. record a { booked = bs }) (λ a. refl) (map (received_update u.key u.k u.state u.ended)) u.key (others_stay u.key u.k u.state u.ended) zero c.args.place e.place e.item c.args.self.now
    (omega (arith, c.if-located-place.true)) c.in-Some.ensures.1

pub returns-else-located-place : goal.returns-else-located-place
returns-else-located-place c =
    let e = c.in-Some.located.now in
    let u = c.args.update.now in
    sym (other_at (λ x. x.job.key) (λ a. a.booked) (λ bs a. record a { booked = bs }) (λ a. refl) (map (received_update u.key u.k u.state u.ended)) u.key (others_stay u.key u.k u.state u.ended) zero c.args.place e.place e.item c.args.self.now
    (λ g. omega (arith, g, c.if-located-place.false)) c.in-Some.ensures.1)

pub returns-in_default : goal.returns-in_default
returns-in_default c =
    let u = c.args.update.now in
    sym (nowhere_at (λ x. x.job.key) (λ a. a.booked) (λ bs a. record a { booked = bs }) (λ a. refl) (map (received_update u.key u.k u.state u.ended)) u.key (others_stay u.key u.k u.state u.ended) c.args.place c.args.self.now c.in_default.ensures)
