-- The items at a place are what the ids there lead to.
use Rattle.std.proofs.Common.{◌≡◌, ℕ, zero, suc, true, List, [], ◌∷◌, map, is_some, Option, None, Some, refl, sym, ap, ◌∙◌, subst, ⊎_elim}
use Rattle.std.proofs.lemmas.Bool.{cases_Bool}
use Rattle.std.specs.Global.{Vec}
use Rattle.std.specs.Map.{lookup}
use Rattle.names_core.specs.Ids.{Numbered}
use Rattle.offer_book.specs.Lists.{Located, same_id, list_at, ids_of, first, located_or, find_from}
use Rattle.offer_book.specs.Tables.{AreFound, items_of, id_lists, IsTable}
use Rattle.offer_book.proofs.Ids.{same_id-refl}
use Rattle.offer_book.proofs.Standing.{ids_there, lists_are, view_is}

module _ {T : Type 0} (id : T → Numbered) where
  some_found : (l : List (List T)) (n p : ℕ) (k : Numbered) (x : T) → first id k (list_at n l) ≡ Some x → is_some (find_from id p k l) ≡ true
  some_found [] n p k x h = absurd (cc)
  some_found (xs ∷ l) zero p k x h = rw h refl
  some_found (xs ∷ l) (suc n) p k x h = by (first id k xs) refl (some_found l n (suc p) k x h)
    where
      by : (w : Option T) → first id k xs ≡ w → is_some (find_from id (suc p) k l) ≡ true → is_some (located_or id p (first id k xs) (find_from id (suc p) k l)) ≡ true
      by None t rest = rw t rest
      by (Some y) t rest = rw t refl

  found_each : (es : List (Numbered × Located T)) (xs : List T) → ((k : Numbered) (x : T) → first id k xs ≡ Some x → is_some (lookup (same_id k) es) ≡ true) → AreFound es (ids_of id xs)
  found_each es [] h = tt
  found_each es (x ∷ xs) h = (h (id x) x (rw (same_id-refl (id x)) refl), found_each es xs later)
    where
      later : (k : Numbered) (y : T) → first id k xs ≡ Some y → is_some (lookup (same_id k) es) ≡ true
      later k y at = ⊎_elim (λ t. h k x (rw t refl)) (λ t. h k y (rw t at)) (cases_Bool (same_id k (id x)))

  pub found_there : (es : List (Numbered × Located T)) (vs : List (Vec Numbered)) (l : List (List T)) (n : ℕ) (ks : List Numbered) → IsTable id es vs l → ks ≡ ids_of id (list_at n l) → AreFound es ks
  found_there es vs l n ks b e =
      subst (AreFound es) (sym e) (found_each es (list_at n l) (λ k x at. ap is_some (b.found k) ∙ some_found l n zero k x at))

  items_at : (es : List (Numbered × Located T)) (kss : List (List Numbered)) (n : ℕ) → items_of es (list_at n kss) ≡ list_at n (map (items_of es) kss)
  items_at es [] n = refl
  items_at es (ks ∷ kss) zero = refl
  items_at es (ks ∷ kss) (suc n) = items_at es kss n

  pub items_there : (es : List (Numbered × Located T)) (vs : List (Vec Numbered)) (l : List (List T)) (n : ℕ) (ks : List Numbered) → IsTable id es vs l → ks ≡ ids_of id (list_at n l) → items_of es ks ≡ list_at n l
  items_there es vs l n ks b e =
      ap (items_of es) (e ∙ sym (ids_there id es vs l n b)) ∙ items_at es (id_lists vs) n ∙ ap (list_at n) (sym (lists_are id es vs) ∙ view_is id es vs l b)
