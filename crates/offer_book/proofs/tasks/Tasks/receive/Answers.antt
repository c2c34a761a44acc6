use Rattle.cluster_model.specs.Sides.{received_update}
use Rattle.offer_book.proofs.Changing.{received_keeps}
use Rattle.offer_book.proofs.Standing.{IsTable-map, closes, stands, have_ids, view_is}
use Rattle.offer_book.proofs.tasks.Tasks.receive.Goals as goal

pub receive_in-requires-clause-theirs : goal.receive_in-requires-clause-theirs
receive_in-requires-clause-theirs c = have_ids (λ x. x.job.key) _ _ _ (stands (λ x. x.job.key) _ _ _ c.self.view_is c.self.invariant)

pub invariant_of-self : goal.invariant_of-self
invariant_of-self c =
    let u = c.args.update.now in
    let b = stands (λ x. x.job.key) _ _ _ c.self.view_is c.self.invariant in
    closes (λ x. x.job.key) _ _ _ (IsTable-map (λ x. x.job.key) _ c.receive_in.new.by_key.entries _ _ (received_update u.key u.k u.state u.ended) (received_keeps u.key u.k u.state u.ended) b c.receive_in.ensures)

pub returns : goal.returns
returns c =
    let u = c.args.update.now in
    let b = stands (λ x. x.job.key) _ _ _ c.self.view_is c.self.invariant in
    view_is (λ x. x.job.key) _ _ _ (IsTable-map (λ x. x.job.key) _ c.receive_in.new.by_key.entries _ _ (received_update u.key u.k u.state u.ended) (received_keeps u.key u.k u.state u.ended) b c.receive_in.ensures)
