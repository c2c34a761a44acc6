use Rattle.std.proofs.Common.{◌<◌, length, sym, ◌∙◌, arith}
use Rattle.offer_book.proofs.Standing.{list_at-id_lists, list_at-past, length-id_lists}
use Rattle.offer_book.proofs.Standing as standing
use Rattle.offer_book.proofs.offers.Offers.ids_at.Goals as goal

pub returns-then-place-len-clause-ids : goal.returns-then-place-len-clause-ids
returns-then-place-len-clause-ids c =
    let within : c.args.place < length c.self.inside.ids.items = omega arith in
    c.as_slice.ensures.value ∙ sym (list_at-id_lists c.self.inside.ids.items c.args.place c.index.result.now within c.index.ensures)
    ∙ standing.ids_there (λ x. x.id) _ _ _ c.args.place (standing.stands (λ x. x.id) _ _ _ c.self.view_is c.self.invariant)

pub returns-else-place-len-clause-ids : goal.returns-else-place-len-clause-ids
returns-else-place-len-clause-ids c =
    sym (list_at-past _ c.args.place (omega (arith, length-id_lists c.self.inside.ids.items)))
    ∙ standing.ids_there (λ x. x.id) _ _ _ c.args.place (standing.stands (λ x. x.id) _ _ _ c.self.view_is c.self.invariant)

pub returns-then-place-len-clause-once : goal.returns-then-place-len-clause-once
returns-then-place-len-clause-once c = (standing.stands (λ x. x.id) _ _ _ c.self.view_is c.self.invariant).once

pub returns-else-place-len-clause-once : goal.returns-else-place-len-clause-once
returns-else-place-len-clause-once c = (standing.stands (λ x. x.id) _ _ _ c.self.view_is c.self.invariant).once
