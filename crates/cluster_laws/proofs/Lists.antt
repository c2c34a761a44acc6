-- Lists.
use Rattle.std.proofs.Common.{◌≡◌, ◌≢◌, ℕ, suc, zero, Bool, true, false, ◌&&◌, List, [], ◌∷◌, ◌++◌, length, map, drop, filter, flat_map, slice_get, Some, refl, sym, ap, subst, bytes_eq}
use Rattle.std.specs.List.{AllByRecursion as Each}
use Rattle.std.proofs.lemmas.Bool.{cond_both}
use Rattle.std.specs.Cmp.Lexicographic.{bytes_decides}

pub both_true : (x y : Bool) → (x && y) ≡ true → (x ≡ true) × (y ≡ true)
both_true true y e = (refl, e)
both_true false y e = absurd cc

pub bytes_same : (xs ys : List ℕ) → bytes_eq xs ys ≡ true → xs ≡ ys
bytes_same xs ys e = (bytes_decides xs ys).0 e

pub bytes_refl : (xs : List ℕ) → bytes_eq xs xs ≡ true
bytes_refl xs = (bytes_decides xs xs).1 refl

pub bytes_differ : (xs ys : List ℕ) → xs ≢ ys → bytes_eq xs ys ≡ false
bytes_differ xs ys n = by (bytes_eq xs ys) refl
  where
    by : (t : Bool) → bytes_eq xs ys ≡ t → bytes_eq xs ys ≡ false
    by true e = absurd (n (bytes_same xs ys e))
    by false e = e

-- Each

pub each_append : {A : Type 0} (P : A → Type 0) (xs ys : List A) → Each P xs → Each P ys → Each P (xs ++ ys)
each_append P [] ys h k = k
each_append P (x ∷ xs) ys h k = (h.0, each_append P xs ys h.1 k)

pub each_map : {A : Type 0} (P Q : A → Type 0) → ((x : A) → P x → Q x) → (xs : List A) → Each P xs → Each Q xs
each_map P Q f [] h = tt
each_map P Q f (x ∷ xs) h = (f x h.0, each_map P Q f xs h.1)

pub each_both : {A : Type 0} (P Q R : A → Type 0) → ((x : A) → P x → Q x → R x) → (xs : List A) → Each P xs → Each Q xs → Each R xs
each_both P Q R f [] h k = tt
each_both P Q R f (x ∷ xs) h k = (f x h.0 k.0, each_both P Q R f xs h.1 k.1)

pub each_all : {A : Type 0} (P : A → Type 0) → ((x : A) → P x) → (xs : List A) → Each P xs
each_all P f [] = tt
each_all P f (x ∷ xs) = (f x, each_all P f xs)

pub each_at : {A : Type 0} (P : A → Type 0) (xs : List A) (k : ℕ) (x : A) → Each P xs → slice_get xs k ≡ Some x → P x
each_at P [] k x h e = absurd cc
each_at P (y ∷ ys) zero x h e = let same : y ≡ x = cc in subst P same h.0
each_at P (y ∷ ys) (suc k) x h e = each_at P ys k x h.1 e

pub each_filter : {A : Type 0} (P : A → Type 0) (keep : A → Bool) (xs : List A) → Each P xs → Each P (filter keep xs)
each_filter P keep [] h = tt
each_filter P keep (x ∷ xs) h = cond_both (keep x) (x ∷ filter keep xs) (filter keep xs) (Each P) (λ e. (h.0, each_filter P keep xs h.1)) (λ e. each_filter P keep xs h.1)

pub each_flat : {A B : Type 0} (P : A → Type 0) (Q : B → Type 0) (f : A → List B) → ((x : A) → P x → Each Q (f x)) → (xs : List A) → Each P xs → Each Q (flat_map f xs)
each_flat P Q f g [] h = tt
each_flat P Q f g (x ∷ xs) h = each_append Q (f x) (flat_map f xs) (g x h.0) (each_flat P Q f g xs h.1)

pub each_mapped : {A B : Type 0} (P : B → Type 0) (f : A → B) (xs : List A) → Each (λ x. P (f x)) xs → Each P (map f xs)
each_mapped P f [] h = tt
each_mapped P f (x ∷ xs) h = (h.0, each_mapped P f xs h.1)

pub each_unmapped : {A B : Type 0} (P : B → Type 0) (f : A → B) (xs : List A) → Each P (map f xs) → Each (λ x. P (f x)) xs
each_unmapped P f [] h = tt
each_unmapped P f (x ∷ xs) h = (h.0, each_unmapped P f xs h.1)

-- places

pub get_append : {A : Type 0} (xs ys : List A) (n : ℕ) (x : A) → slice_get xs n ≡ Some x → slice_get (xs ++ ys) n ≡ Some x
get_append [] ys n x e = absurd cc
get_append (y ∷ xs) ys zero x e = e
get_append (y ∷ xs) ys (suc n) x e = get_append xs ys n x e

pub get_seam : {A : Type 0} (xs : List A) (y : A) (ys : List A) → slice_get (xs ++ y ∷ ys) (length xs) ≡ Some y
get_seam [] y ys = refl
get_seam (x ∷ xs) y ys = get_seam xs y ys

-- lists joined

pub drop_all : {A : Type 0} (xs ys : List A) → drop (length xs) (xs ++ ys) ≡ ys
drop_all [] ys = refl
drop_all (x ∷ xs) ys = drop_all xs ys

pub behind_is : {A : Type 0} (xs ys more : List A) → ys ≡ xs ++ more → ys ≡ xs ++ drop (length xs) ys
behind_is xs ys more e = subst (λ zs. zs ≡ xs ++ drop (length xs) zs) (sym e) (ap (λ zs. xs ++ zs) (sym (drop_all xs more)))

pub cons_same : {A : Type 0} (x y : A) (xs ys : List A) → x ≡ y → xs ≡ ys → (x ∷ xs) ≡ (y ∷ ys)
cons_same x y xs ys e f = cc

pub append_same : {A : Type 0} (xs ys us vs : List A) → xs ≡ ys → us ≡ vs → xs ++ us ≡ ys ++ vs
append_same xs ys us vs e f = cc
