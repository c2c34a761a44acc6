use Rattle.offer_book.proofs.Standing.{stands}
use Rattle.offer_book.proofs.Walking.{found_there, items_there}
use Rattle.offer_book.proofs.tasks.Tasks.at.Goals as goal

pub invariant_of-result : goal.invariant_of-result
invariant_of-result c = found_there (λ x. x.job.key) _ _ _ c.args.place _ (stands (λ x. x.job.key) _ _ _ c.self.view_is c.self.invariant) c.keys_at.ensures.keys

pub returns : goal.returns
returns c = items_there (λ x. x.job.key) _ _ _ c.args.place _ (stands (λ x. x.job.key) _ _ _ c.self.view_is c.self.invariant) c.keys_at.ensures.keys
