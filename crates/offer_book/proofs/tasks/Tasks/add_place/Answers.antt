use Rattle.std.proofs.Common.{◌++◌, ◌∷◌, [], ap, ◌∙◌}
use Rattle.offer_book.specs.Tables.{id_lists}
use Rattle.offer_book.proofs.Standing.{IsTable-more, closes, view_is, id_lists_more_vec}
use Rattle.offer_book.proofs.tasks.Tasks.add_place.Goals as goal

pub invariant_of-self-2 : goal.invariant_of-self-2
invariant_of-self-2 c =
    closes (λ x. x.job.key) _ _ _ (IsTable-more (λ x. x.job.key) _ c.self.inside.keys.items c.push.new.self.items _ c.self.invariant
    (ap id_lists c.in_ok-push.ensures.items ∙ id_lists_more_vec c.self.inside.keys.items c.new.result c.new.ensures.items))

pub returns-clause-ok : goal.returns-clause-ok
returns-clause-ok c =
    view_is (λ x. x.job.key) _ _ _ (IsTable-more (λ x. x.job.key) _ c.self.inside.keys.items c.push.new.self.items _ c.self.invariant
    (ap id_lists c.in_ok-push.ensures.items ∙ id_lists_more_vec c.self.inside.keys.items c.new.result c.new.ensures.items))
    ∙ ap (λ l. l ++ [] ∷ []) c.self.view_is
