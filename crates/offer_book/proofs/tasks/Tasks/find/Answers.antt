use Rattle.offer_book.proofs.Standing.{stands}
use Rattle.offer_book.proofs.tasks.Tasks.find.Goals as goal

pub returns-clause-once : goal.returns-clause-once
returns-clause-once c = (stands (λ x. x.job.key) _ _ _ c.self.view_is c.self.invariant).once
