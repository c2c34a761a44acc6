use Rattle.std.proofs.Common.{zero, sym, ◌∙◌}
use Rattle.offer_book.proofs.Taking.{without_nowhere}
use Rattle.offer_book.proofs.Standing.{IsTable-without, IsTable-nowhere, closes, stands, view_is}
use Rattle.offer_book.proofs.tasks.Tasks.remove.Goals as goal

pub invariant_of-self : goal.invariant_of-self
invariant_of-self c =
    let b = stands (λ x. x.job.key) _ _ _ c.self.view_is c.self.invariant in
    closes (λ x. x.job.key) _ _ _ (IsTable-without (λ x. x.job.key) _ c.swap_remove.new.self.entries _ c.remove_key.new.keys.items _ c.args.key c.in-Some.located b
    (sym (b.found c.args.key) ∙ sym c.swap_remove.ensures.value ∙ c.in-Some.is) (λ q. c.swap_remove.ensures.updates.0 q) c.remove_key.ensures)

pub returns-in-Some-clause-others : goal.returns-in-Some-clause-others
returns-in-Some-clause-others c =
    let b = stands (λ x. x.job.key) _ _ _ c.self.view_is c.self.invariant in
    view_is (λ x. x.job.key) _ _ _ (IsTable-without (λ x. x.job.key) _ c.swap_remove.new.self.entries _ c.remove_key.new.keys.items _ c.args.key c.in-Some.located b
    (sym (b.found c.args.key) ∙ sym c.swap_remove.ensures.value ∙ c.in-Some.is) (λ q. c.swap_remove.ensures.updates.0 q) c.remove_key.ensures)

pub returns-in-None-clause-others : goal.returns-in-None-clause-others
returns-in-None-clause-others c =
    let b = stands (λ x. x.job.key) _ _ _ c.self.view_is c.self.invariant in
    view_is (λ x. x.job.key) _ _ _ (IsTable-nowhere (λ x. x.job.key) _ c.swap_remove.new.self.entries _ _ c.args.key b
    (sym (b.found c.args.key) ∙ sym c.swap_remove.ensures.value ∙ c.in-None.is) (λ q. c.swap_remove.ensures.updates.0 q))

pub returns-in-None-clause-none : goal.returns-in-None-clause-none
returns-in-None-clause-none c =
    let b = stands (λ x. x.job.key) _ _ _ c.self.view_is c.self.invariant in
    let none = sym (b.found c.args.key) ∙ sym c.swap_remove.ensures.value ∙ c.in-None.is in
    view_is (λ x. x.job.key) _ _ _ (IsTable-nowhere (λ x. x.job.key) _ c.swap_remove.new.self.entries _ _ c.args.key b none (λ q. c.swap_remove.ensures.updates.0 q))
    ∙ without_nowhere (λ x. x.job.key) c.args.self.now zero c.args.key none

pub returns-in-Some-clause-once : goal.returns-in-Some-clause-once
returns-in-Some-clause-once c = (stands (λ x. x.job.key) _ _ _ c.self.view_is c.self.invariant).once

pub returns-in-None-clause-once : goal.returns-in-None-clause-once
returns-in-None-clause-once c = (stands (λ x. x.job.key) _ _ _ c.self.view_is c.self.invariant).once
