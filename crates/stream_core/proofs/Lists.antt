-- What is left to show of lists.
use Rattle.std.proofs.Common.{◌≡◌, ℕ, suc, zero, ◌+◌, false, List, [], ◌∷◌, ◌++◌, take, drop, refl, ap, subst, inl, inr, arith}
use Rattle.std.specs.List.{list_any}
use Rattle.std.proofs.lemmas.Bool.{cases_Bool}
use Rattle.names_core.specs.declared.state.TaskState.{TaskState}
use Rattle.names_core.specs.States.{is_terminal}

one_more : {A : Type 0} (n : ℕ) (xs : List A) (x : A) (ys : List A) → drop n xs ≡ x ∷ ys → (take (suc n) xs ≡ take n xs ++ x ∷ []) × (drop (suc n) xs ≡ ys)
one_more zero [] x ys e = absurd cc
one_more zero (z ∷ zs) x ys e = let is : z ≡ x = cc in let more : zs ≡ ys = cc in (ap (λ w. w ∷ []) is, more)
one_more (suc n) [] x ys e = absurd cc
one_more (suc n) (z ∷ zs) x ys e = let h = one_more n zs x ys e in (ap (λ ws. z ∷ ws) h.0, h.1)

-- the next of those that are left joins those that are taken
pub next_taken : {A : Type 0} (n : ℕ) (xs : List A) (x : A) (ys : List A) → drop n xs ≡ x ∷ ys → (take (n + 1) xs ≡ take n xs ++ x ∷ []) × (drop (n + 1) xs ≡ ys)
next_taken n xs x ys e = let s : suc n ≡ n + 1 = omega arith in subst (λ k. (take k xs ≡ take n xs ++ x ∷ []) × (drop k xs ≡ ys)) s (one_more n xs x ys e)

any_push : (xs : List TaskState) (s : TaskState) → list_any is_terminal xs ≡ false → list_any is_terminal (xs ++ s ∷ []) ≡ is_terminal s
any_push [] s h = elim (cases_Bool (is_terminal s)) [ inl e ↦ rw e refl | inr e ↦ rw e refl ]
any_push (x ∷ xs) s h = elim (cases_Bool (is_terminal x)) [ inl e ↦ absurd (let k = rw e at h in cc) | inr e ↦ rw e (any_push xs s (rw e at h)) ]
