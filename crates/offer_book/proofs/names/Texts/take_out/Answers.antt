use Rattle.std.proofs.Common.{Some, IsSome, List, not, filter, refl, subst, ap, ◌∙◌}
use Rattle.std.proofs.lemmas.Map.Text.{btree_map_updates_text}
use Rattle.names_core.specs.Ids.{Numbered}
use Rattle.offer_book.specs.Lists.{same_id}
use Rattle.offer_book.specs.Names.{keys_in}
use Rattle.offer_book.proofs.Naming.{text_changed}
use Rattle.offer_book.proofs.names.Texts.take_out.Goals as goal

pub returns-in-Some : goal.returns-in-Some
returns-in-Some c =
    let v = c.keep_others.new.keys in
    let change : List Numbered → List Numbered = λ ks. filter (λ k. not (same_id c.args.key k)) ks in
    text_changed c.args.text.now c.args.self.now (record { by_text = c.get_mut.follows.lender v }) (Some v)
    (btree_map_updates_text c.args.text.now c.args.self.now.by_text (c.get_mut.follows.lender v) (Some v) ((c.get_mut.follows.holds v).3 (subst IsSome c.in-Some.ensures.value refl)))
    change (c.keep_others.ensures ∙ ap (λ w. change (keys_in w)) c.in-Some.ensures.value)
