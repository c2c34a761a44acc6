use Rattle.offer_book.proofs.Standing.{IsTable-push, IsTable-same, closes, stands, taken_back, view_is}
use Rattle.offer_book.proofs.tasks.Tasks.push.Goals as goal

pub invariant_of-self-in-Ok : goal.invariant_of-self-in-Ok
invariant_of-self-in-Ok c =
    let b = stands (λ x. x.job.key) _ _ _ c.self.view_is c.self.invariant in
    closes (λ x. x.job.key) _ _ _ (IsTable-push (λ x. x.job.key) _ c.insert.new.by_key.entries _ _ _ c.args.place c.args.task b c.requires.within c.requires.new
    c.in_ok-insert.ensures.ok c.in-Ok.ensures.ok)

pub returns-in-Ok-clause-ok : goal.returns-in-Ok-clause-ok
returns-in-Ok-clause-ok c =
    let b = stands (λ x. x.job.key) _ _ _ c.self.view_is c.self.invariant in
    view_is (λ x. x.job.key) _ _ _ (IsTable-push (λ x. x.job.key) _ c.insert.new.by_key.entries _ _ _ c.args.place c.args.task b c.requires.within c.requires.new
    c.in_ok-insert.ensures.ok c.in-Ok.ensures.ok)

pub invariant_of-self-in-Err : goal.invariant_of-self-in-Err
invariant_of-self-in-Err c =
    let b = stands (λ x. x.job.key) _ _ _ c.self.view_is c.self.invariant in
    closes (λ x. x.job.key) _ _ _ (IsTable-same (λ x. x.job.key) _ c.swap_remove.new.self.entries _ _ _ b c.in-Err.ensures.err
    (taken_back (λ x. x.job.key) _ c.insert.new.by_key.entries _ _ _ c.args.task.job.key _ b c.requires.new c.in_ok-insert.ensures.ok (λ q. c.swap_remove.ensures.updates.0 q)))

pub returns-in-Err-clause-err : goal.returns-in-Err-clause-err
returns-in-Err-clause-err c =
    let b = stands (λ x. x.job.key) _ _ _ c.self.view_is c.self.invariant in
    view_is (λ x. x.job.key) _ _ _ (IsTable-same (λ x. x.job.key) _ c.swap_remove.new.self.entries _ _ _ b c.in-Err.ensures.err
    (taken_back (λ x. x.job.key) _ c.insert.new.by_key.entries _ _ _ c.args.task.job.key _ b c.requires.new c.in_ok-insert.ensures.ok (λ q. c.swap_remove.ensures.updates.0 q)))
