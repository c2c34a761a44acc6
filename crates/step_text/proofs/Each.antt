-- Lines written one after another, as a loop does.
use Rattle.std.proofs.Common.{◌≡◌, ℕ, ◌+◌, ◌≤◌, ◌<◌, List, [], ◌∷◌, ◌++◌, length, take, get_or, flat_map, sym, ap, ◌∙◌, append_assoc, append-nil}
use Rattle.std.proofs.lemmas.List.{take_more, take_all}
use Rattle.std.proofs.lemmas.Grind.{flat_map-append}

-- what one element more adds
pub pushed_more : {X : Type 0} (f : X → List ℕ) (xs : List X) (i : ℕ) (d x : X) (old text new : List ℕ) → i < length xs → x ≡ get_or xs i d
    → text ≡ old ++ flat_map f (take i xs) → new ≡ text ++ f x → new ≡ old ++ flat_map f (take (i + 1) xs)
pushed_more f xs i d x old text new lt is so_far pushed =
    let more : take (i + 1) xs ≡ take i xs ++ x ∷ [] = take_more xs i d lt ∙ ap (λ w. take i xs ++ w ∷ []) (sym is) in
    let last : flat_map f (x ∷ []) ≡ f x = append-nil (f x) in
    let lines = ap (flat_map f) more ∙ (flat_map-append f (take i xs) (x ∷ []) ∙ ap (λ ys. flat_map f (take i xs) ++ ys) last) in
    pushed ∙ (ap (λ ys. ys ++ f x) so_far ∙ (append_assoc old (flat_map f (take i xs)) (f x) ∙ ap (λ ys. old ++ ys) (sym lines)))

-- all are added
pub pushed_all : {X : Type 0} (f : X → List ℕ) (xs : List X) (i : ℕ) (old text : List ℕ) → length xs ≤ i → text ≡ old ++ flat_map f (take i xs) → text ≡ old ++ flat_map f xs
pushed_all f xs i old text le so_far = so_far ∙ ap (λ ys. old ++ flat_map f ys) (take_all i xs le)
