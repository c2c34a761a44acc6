use Rattle.offer_book.specs.Changes.{ended}
use Rattle.offer_book.proofs.Changing.{ended_keeps}
use Rattle.offer_book.proofs.Standing.{IsTable-map, closes, stands, have_ids, view_is}
use Rattle.offer_book.proofs.tasks.Tasks.end.Goals as goal

pub end_in-requires : goal.end_in-requires
end_in-requires c = have_ids (λ x. x.job.key) _ _ _ (stands (λ x. x.job.key) _ _ _ c.self.view_is c.self.invariant)

pub invariant_of-self : goal.invariant_of-self
invariant_of-self c =
    let b = stands (λ x. x.job.key) _ _ _ c.self.view_is c.self.invariant in
    closes (λ x. x.job.key) _ _ _ (IsTable-map (λ x. x.job.key) _ c.end_in.new.by_key.entries _ _ (ended c.args.key) (ended_keeps c.args.key) b c.end_in.ensures)

pub returns : goal.returns
returns c =
    let b = stands (λ x. x.job.key) _ _ _ c.self.view_is c.self.invariant in
    view_is (λ x. x.job.key) _ _ _ (IsTable-map (λ x. x.job.key) _ c.end_in.new.by_key.entries _ _ (ended c.args.key) (ended_keeps c.args.key) b c.end_in.ensures)
