use Rattle.offer_book.proofs.Standing.{stands}
use Rattle.offer_book.proofs.tasks.Tasks.are_apart.Goals as goal

pub returns : goal.returns
returns c = (stands (λ x. x.job.key) _ _ _ c.self.view_is c.self.invariant).once
