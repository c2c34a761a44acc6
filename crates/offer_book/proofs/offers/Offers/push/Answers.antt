use Rattle.offer_book.proofs.Standing.{IsTable-push, IsTable-same, closes, stands, taken_back, view_is}
use Rattle.offer_book.proofs.offers.Offers.push.Goals as goal

pub invariant_of-self-in-Ok-push_id : goal.invariant_of-self-in-Ok-push_id
invariant_of-self-in-Ok-push_id c =
    let b = stands (λ x. x.id) _ _ _ c.self.view_is c.self.invariant in
    closes (λ x. x.id) _ _ _ (IsTable-push (λ x. x.id) _ c.insert.new.self.entries _ _ _ c.args.place c.args.offer b c.requires.within c.requires.new
    (λ q. c.in-Ok.ensures.updates.0 q) c.in-Ok-push_id.ensures.ok)

pub returns-in-Ok-push_id-clause-ok : goal.returns-in-Ok-push_id-clause-ok
returns-in-Ok-push_id-clause-ok c =
    let b = stands (λ x. x.id) _ _ _ c.self.view_is c.self.invariant in
    view_is (λ x. x.id) _ _ _ (IsTable-push (λ x. x.id) _ c.insert.new.self.entries _ _ _ c.args.place c.args.offer b c.requires.within c.requires.new
    (λ q. c.in-Ok.ensures.updates.0 q) c.in-Ok-push_id.ensures.ok)

pub invariant_of-self-in-Err-push_id : goal.invariant_of-self-in-Err-push_id
invariant_of-self-in-Err-push_id c =
    let b = stands (λ x. x.id) _ _ _ c.self.view_is c.self.invariant in
    closes (λ x. x.id) _ _ _ (IsTable-same (λ x. x.id) _ c.swap_remove.new.self.entries _ _ _ b c.in-Err-push_id.ensures.err
    (taken_back (λ x. x.id) _ c.insert.new.self.entries _ _ _ c.args.offer.id _ b c.requires.new (λ q. c.in-Ok.ensures.updates.0 q) (λ q. c.swap_remove.ensures.updates.0 q)))

pub returns-in-Err-push_id-clause-err : goal.returns-in-Err-push_id-clause-err
returns-in-Err-push_id-clause-err c =
    let b = stands (λ x. x.id) _ _ _ c.self.view_is c.self.invariant in
    view_is (λ x. x.id) _ _ _ (IsTable-same (λ x. x.id) _ c.swap_remove.new.self.entries _ _ _ b c.in-Err-push_id.ensures.err
    (taken_back (λ x. x.id) _ c.insert.new.self.entries _ _ _ c.args.offer.id _ b c.requires.new (λ q. c.in-Ok.ensures.updates.0 q) (λ q. c.swap_remove.ensures.updates.0 q)))
