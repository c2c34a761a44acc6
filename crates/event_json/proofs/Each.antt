-- Values written one after another, as a loop does.
use Rattle.std.proofs.Common.{◌≡◌, ℕ, ◌+◌, ◌≤◌, ◌<◌, List, [], ◌∷◌, ◌++◌, length, take, get_or, map, sym, ap, subst, ◌∙◌}
use Rattle.std.proofs.lemmas.List.{take_more, take_all, map-append}
use Rattle.std.specs.List.{AllByRecursion}
use Rattle.serde_json.specs.Data.{Data}
use Rattle.serde_json.specs.View.{view}
use Rattle.serde_json.specs.declared.value.Value.{Value}

one_more : {X : Type 0} (xs : List X) (i : ℕ) (x : X) → i < length xs → x ≡ get_or xs i x → take (i + 1) xs ≡ take i xs ++ x ∷ []
one_more xs i x lt is = take_more xs i x lt ∙ ap (λ w. take i xs ++ w ∷ []) (sym is)

-- what is written of one element more
pub written_more : {X : Type 0} (g : X → Data) (xs : List X) (i : ℕ) (x : X) (vs ws : List Value) (v : Value) → i < length xs → x ≡ get_or xs i x
    → map view vs ≡ map g (take i xs) → view v ≡ g x → ws ≡ vs ++ v ∷ [] → map view ws ≡ map g (take (i + 1) xs)
written_more g xs i x vs ws v lt is so_far one pushed =
    let left = ap (map view) pushed ∙ map-append view vs (v ∷ []) in
    let right = ap (map g) (one_more xs i x lt is) ∙ map-append g (take i xs) (x ∷ []) in
    left ∙ (ap (λ (ds : List Data). ds ++ view v ∷ []) so_far ∙ (ap (λ (d : Data). map g (take i xs) ++ d ∷ []) one ∙ sym right))

-- all are written
pub written_all : {X : Type 0} (g : X → Data) (xs : List X) (i : ℕ) (vs : List Value) → length xs ≤ i → map view vs ≡ map g (take i xs) → map view vs ≡ map g xs
written_all g xs i vs le so_far = so_far ∙ ap (map g) (take_all i xs le)

all_push : {X : Type 0} (P : X → Type 0) (xs : List X) (x : X) → AllByRecursion P xs → P x → AllByRecursion P (xs ++ x ∷ [])
all_push P [] x h p = (p, tt)
all_push P (y ∷ xs) x h p = (h.0, all_push P xs x h.1 p)

-- one element more has P
pub all_more : {X : Type 0} (P : X → Type 0) (xs : List X) (i : ℕ) (x : X) → i < length xs → x ≡ get_or xs i x → AllByRecursion P (take i xs) → P x → AllByRecursion P (take (i + 1) xs)
all_more P xs i x lt is h p = subst (AllByRecursion P) (sym (one_more xs i x lt is)) (all_push P (take i xs) x h p)

-- all have P
pub all_of_take : {X : Type 0} (P : X → Type 0) (xs : List X) (i : ℕ) → length xs ≤ i → AllByRecursion P (take i xs) → AllByRecursion P xs
all_of_take P xs i le h = subst (AllByRecursion P) (take_all i xs le) h
