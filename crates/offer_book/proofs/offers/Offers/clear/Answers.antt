use Rattle.std.proofs.Common.{◌≡◌, ◌<◌, cond, None, List, length, sym, ap, ◌∙◌, arith}
use Rattle.std.specs.List.{list_any}
use Rattle.std.specs.Map.{lookup}
use Rattle.names_core.specs.Ids.{Numbered}
use Rattle.offer_book.specs.Lists.{same_id, list_at}
use Rattle.offer_book.specs.Tables.{id_lists}
use Rattle.offer_book.proofs.Standing.{IsTable-clear, closes, stands, view_is, list_at-id_lists, at_place-past, as_many}
use Rattle.offer_book.proofs.offers.Offers.clear.Goals as goal

pub invariant_of-self : goal.invariant_of-self
invariant_of-self c =
    let b = stands (λ x. x.id) _ _ _ c.self.view_is c.self.invariant in
    let es = c.self.inside.by_id.entries in
    let within : c.args.place < length c.self.inside.ids.items = omega arith in
    let here : c.deref.result.now ≡ list_at c.args.place (id_lists c.self.inside.ids.items) =
    c.deref.ensures.value ∙ sym (list_at-id_lists c.self.inside.ids.items c.args.place c.index.result.now within c.index.ensures) in
    closes (λ x. x.id) _ _ _ (IsTable-clear (λ x. x.id) es c.remove_each.new.by_id.entries _ c.clear_ids.new.ids.items _ c.args.place b
    (λ q. c.remove_each.ensures q ∙ ap (λ (ks : List Numbered). cond (list_any (same_id q) ks) None (lookup (same_id q) es)) here) c.clear_ids.ensures)

pub returns-then-place-len : goal.returns-then-place-len
returns-then-place-len c =
    let b = stands (λ x. x.id) _ _ _ c.self.view_is c.self.invariant in
    let es = c.self.inside.by_id.entries in
    let within : c.args.place < length c.self.inside.ids.items = omega arith in
    let here : c.deref.result.now ≡ list_at c.args.place (id_lists c.self.inside.ids.items) =
    c.deref.ensures.value ∙ sym (list_at-id_lists c.self.inside.ids.items c.args.place c.index.result.now within c.index.ensures) in
    view_is (λ x. x.id) _ _ _ (IsTable-clear (λ x. x.id) es c.remove_each.new.by_id.entries _ c.clear_ids.new.ids.items _ c.args.place b
    (λ q. c.remove_each.ensures q ∙ ap (λ (ks : List Numbered). cond (list_any (same_id q) ks) None (lookup (same_id q) es)) here) c.clear_ids.ensures)

pub returns-else-place-len : goal.returns-else-place-len
returns-else-place-len c =
    let b = stands (λ x. x.id) _ _ _ c.self.view_is c.self.invariant in
    sym (at_place-past _ c.args.place _ (omega (arith, as_many (λ x. x.id) _ _ _ b)))
