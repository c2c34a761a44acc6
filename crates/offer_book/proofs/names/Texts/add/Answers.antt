use Rattle.std.proofs.Common.{◌≡◌, ℕ, List, ◌++◌, ◌∷◌, [], Some, IsSome, string_bytes, refl, sym, subst, ap, ◌∙◌}
use Rattle.std.proofs.lemmas.Map.Text.{btree_map_updates_text}
use Rattle.std.specs.BTreeMap.{get_by_text}
use Rattle.std.specs.Map.{update}
use Rattle.std.specs.Prelude.{bytes_eq}
use Rattle.offer_book.specs.Names.{keys_in, keys_under}
use Rattle.offer_book.proofs.Naming.{text_changed, text_same}
use Rattle.offer_book.proofs.Standing.{on_err}
use Rattle.offer_book.proofs.names.Texts.add.Goals as goal

pub returns-in_err-push-clause-err : goal.returns-in_err-push-clause-err
returns-in_err-push-clause-err c =
    let v = c.push.new.self in
    on_err _ (text_same c.args.text.now c.args.self.now (record { by_text = c.get_mut.follows.lender v }) (Some v)
    (btree_map_updates_text c.args.text.now c.args.self.now.by_text (c.get_mut.follows.lender v) (Some v) ((c.get_mut.follows.holds v).3 (subst IsSome c.in-Some.ensures.value refl)))
    (c.in_err-push.ensures.items ∙ ap keys_in c.in-Some.ensures.value))

pub returns-in-Some-clause-ok : goal.returns-in-Some-clause-ok
returns-in-Some-clause-ok c =
    let v = c.push.new.self in
    text_changed c.args.text.now c.args.self.now (record { by_text = c.get_mut.follows.lender v }) (Some v)
    (btree_map_updates_text c.args.text.now c.args.self.now.by_text (c.get_mut.follows.lender v) (Some v) ((c.get_mut.follows.holds v).3 (subst IsSome c.in-Some.ensures.value refl)))
    (λ ks. ks ++ c.args.key ∷ []) (c.in_ok-push.ensures.items ∙ ap (λ w. keys_in w ++ c.args.key ∷ []) c.in-Some.ensures.value)

pub returns-clause-ok : goal.returns-clause-ok
returns-clause-ok c =
    let v = c.push-2.new.self in
    let n = c.insert.new.self in
    let own = string_bytes c.in_ok-from_str.field-0 in
    let u : (cs : List ℕ) → get_by_text n cs ≡ update bytes_eq (get_by_text c.get_mut.follows.lender-at-none) own (Some v) cs =
    btree_map_updates_text own c.get_mut.follows.lender-at-none n (Some v) c.in_ok-insert.ensures.updates in
    let v2 : (cs : List ℕ) → get_by_text n cs ≡ update bytes_eq (get_by_text c.get_mut.follows.lender-at-none) c.args.text.now (Some v) cs =
    subst (λ b. (cs : List ℕ) → get_by_text n cs ≡ update bytes_eq (get_by_text c.get_mut.follows.lender-at-none) b (Some v) cs) c.in_ok-from_str.ensures.ok u in
    let v3 : (cs : List ℕ) → get_by_text n cs ≡ update bytes_eq (get_by_text c.args.self.now.by_text) c.args.text.now (Some v) cs =
    subst (λ m. (cs : List ℕ) → get_by_text n cs ≡ update bytes_eq (get_by_text m) c.args.text.now (Some v) cs) c.get_mut.follows.holds-at-none v2 in
    let none : keys_under c.args.text.now c.args.self.now ≡ [] = ap keys_in (sym (rw c.in_default.is at c.get_mut.ensures.value)) in
    text_changed c.args.text.now c.args.self.now (record { by_text = n }) (Some v) v3
    (λ ks. ks ++ c.args.key ∷ []) (c.in_ok-push-2.ensures.items ∙ ap (λ ks. ks ++ c.args.key ∷ []) (c.new-keys.ensures.items ∙ sym none))
