use Rattle.std.proofs.Common.{◌<◌, length, sym, ◌∙◌, arith}
use Rattle.offer_book.proofs.Standing.{list_at-id_lists, list_at-past, length-id_lists}
use Rattle.offer_book.proofs.Standing as standing
use Rattle.offer_book.proofs.tasks.Tasks.keys_at.Goals as goal

pub returns-then-place-len-clause-keys : goal.returns-then-place-len-clause-keys
returns-then-place-len-clause-keys c =
    let within : c.args.place < length c.self.inside.keys.items = omega arith in
    c.as_slice.ensures.value ∙ sym (list_at-id_lists c.self.inside.keys.items c.args.place c.index.result.now within c.index.ensures)
    ∙ standing.ids_there (λ x. x.job.key) _ _ _ c.args.place (standing.stands (λ x. x.job.key) _ _ _ c.self.view_is c.self.invariant)

pub returns-else-place-len-clause-keys : goal.returns-else-place-len-clause-keys
returns-else-place-len-clause-keys c =
    sym (list_at-past _ c.args.place (omega (arith, length-id_lists c.self.inside.keys.items)))
    ∙ standing.ids_there (λ x. x.job.key) _ _ _ c.args.place (standing.stands (λ x. x.job.key) _ _ _ c.self.view_is c.self.invariant)

pub returns-then-place-len-clause-once : goal.returns-then-place-len-clause-once
returns-then-place-len-clause-once c = (standing.stands (λ x. x.job.key) _ _ _ c.self.view_is c.self.invariant).once

pub returns-else-place-len-clause-once : goal.returns-else-place-len-clause-once
returns-else-place-len-clause-once c = (standing.stands (λ x. x.job.key) _ _ _ c.self.view_is c.self.invariant).once
