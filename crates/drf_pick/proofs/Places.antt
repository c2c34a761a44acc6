-- Items at their places.
use Rattle.std.proofs.Common.{◌≡◌, ℕ, zero, suc, ◌+◌, ◌<◌, Bool, true, false, not, cond, nat_lt, List, [], ◌∷◌, ◌++◌, length, set, get_or, Option, Some, None, refl, sym, ap, ◌∙◌, subst, arith}
use Rattle.std.specs.List.{position, position_or_len, find}
use Rattle.std.proofs.lemmas.Option.{slice_get_past}
use Rattle.std.proofs.lemmas.List.Folds.{find_at}
use Rattle.std.proofs.lemmas.List.Quantifiers.{position-Some}
use Rattle.std.proofs.lemmas.Bool.{ltb-false, ltb-true}
use Rattle.drf_pick.specs.Shares.{at_first}

-- the first place at which a test passes
pub record IsFirst {X : Type 0} (test : X → Bool) (xs : List X) (i : ℕ) (x : X) : Type 0 where
  pub found : find test xs ≡ Some x
  pub changed : (change : X → X) → at_first test change xs ≡ set xs i (change x)

is_first : {X : Type 0} (test : X → Bool) (xs : List X) (i : ℕ) (x : X) → i < length xs → x ≡ get_or xs i x → test x ≡ true
    → ((k : ℕ) → k < i → test (get_or xs k x) ≡ false) → IsFirst test xs i x
is_first test [] i x within is passes fails = absurd (omega arith)
is_first {X} test (y ∷ ys) zero x within is passes fails =
    let here : test y ≡ true = ap test (sym is) ∙ passes in
    record { found = rw here (ap (λ (z : X). Some z) (sym is)); changed = λ change. rw here (ap (λ (z : X). change z ∷ ys) (sym is)) }
is_first {X} test (y ∷ ys) (suc i) x within is passes fails =
    let here : test y ≡ false = fails 0 (omega arith) in
    let rest = is_first test ys i x (omega arith) is passes (λ k below. fails (suc k) (omega arith)) in
    record { found = rw here rest.found; changed = λ change. rw here (ap (λ (zs : List X). y ∷ zs) (rest.changed change)) }

pub first_at : {X : Type 0} (test : X → Bool) (xs : List X) (i : ℕ) (x : X) → position test xs ≡ Some i → x ≡ get_or xs i x → IsFirst test xs i x
first_at test xs i x at is =
    let p = position-Some test xs i x at in
    is_first test xs i x p.0 is (ap test is ∙ p.1) p.2

pub none_at : {X : Type 0} (test : X → Bool) (xs : List X) → position test xs ≡ None → find test xs ≡ None
none_at test xs h = by_case (nat_lt (position_or_len test xs) (length xs)) refl h
  where
    by_case : (b : Bool) → nat_lt (position_or_len test xs) (length xs) ≡ b → cond b (Some (position_or_len test xs)) None ≡ None → find test xs ≡ None
    by_case true e k = absurd (cc)
    by_case false e k = find_at test xs ∙ slice_get_past xs (position_or_len test xs) (ltb-false _ _ e)

-- where none passes none is changed
pub unchanged : {X : Type 0} (test : X → Bool) (change : X → X) (xs : List X) → find test xs ≡ None → xs ≡ at_first test change xs
unchanged test change [] h = refl
unchanged {X} test change (x ∷ xs) h = by_case (test x) (λ g. unchanged test change xs g) h
  where
    by_case : (b : Bool) → (find test xs ≡ None → xs ≡ at_first test change xs) → cond b (Some x) (find test xs) ≡ None → x ∷ xs ≡ cond b (change x ∷ xs) (x ∷ at_first test change xs)
    by_case true more k = absurd (cc)
    by_case false more k = ap (λ (zs : List X). x ∷ zs) (more k)

-- where the first that passes is the last
pub last_changed : {X : Type 0} (test : X → Bool) (change : X → X) (xs : List X) (x : X) → find test xs ≡ None → test x ≡ true → at_first test change (xs ++ x ∷ []) ≡ xs ++ change x ∷ []
last_changed test change [] x none passes = rw passes refl
last_changed {X} test change (y ∷ ys) x none passes = by_case (test y) none (λ n. last_changed test change ys x n passes)
  where
    by_case : (b : Bool) → cond b (Some y) (find test ys) ≡ None → (find test ys ≡ None → at_first test change (ys ++ x ∷ []) ≡ ys ++ change x ∷ []) → cond b (change y ∷ (ys ++ x ∷ [])) (y ∷ at_first test change (ys ++ x ∷ [])) ≡ y ∷ (ys ++ change x ∷ [])
    by_case true n more = absurd (cc)
    by_case false n more = ap (λ (zs : List X). y ∷ zs) (more n)

-- only what becomes of the first that passes counts
pub changed_so : {X : Type 0} (test : X → Bool) (change other : X → X) (xs : List X) (x : X) → find test xs ≡ Some x → change x ≡ other x → at_first test change xs ≡ at_first test other xs
changed_so test change other [] x found so = absurd (cc)
changed_so {X} test change other (y ∷ ys) x found so = by_case (test y) found (λ n. changed_so test change other ys x n so)
  where
    by_case : (b : Bool) → cond b (Some y) (find test ys) ≡ Some x → (find test ys ≡ Some x → at_first test change ys ≡ at_first test other ys) → cond b (change y ∷ ys) (y ∷ at_first test change ys) ≡ cond b (other y ∷ ys) (y ∷ at_first test other ys)
    by_case true n more = let is : x ≡ y = cc in ap (λ (z : X). z ∷ ys) (subst (λ (z : X). change z ≡ other z) is so)
    by_case false n more = ap (λ (zs : List X). y ∷ zs) (more n)

pub first_same : {X : Type 0} (test : X → Bool) (change : X → X) (xs : List X) (x : X) → find test xs ≡ Some x → change x ≡ x → xs ≡ at_first test change xs
first_same test change [] x found so = absurd (cc)
first_same {X} test change (y ∷ ys) x found so = by_case (test y) found (λ n. first_same test change ys x n so)
  where
    by_case : (b : Bool) → cond b (Some y) (find test ys) ≡ Some x → (find test ys ≡ Some x → ys ≡ at_first test change ys) → y ∷ ys ≡ cond b (change y ∷ ys) (y ∷ at_first test change ys)
    by_case true n more = let is : x ≡ y = cc in ap (λ (z : X). z ∷ ys) (sym (subst (λ (z : X). change z ≡ z) is so))
    by_case false n more = ap (λ (zs : List X). y ∷ zs) (more n)

-- where one has a place one is found
len_at : {X : Type 0} (test : X → Bool) (xs : List X) → find test xs ≡ None → position_or_len test xs ≡ length xs
len_at test [] h = refl
len_at {X} test (x ∷ xs) h = by_case (test x) (λ g. len_at test xs g) h
  where
    by_case : (b : Bool) → (find test xs ≡ None → position_or_len test xs ≡ length xs) → cond b (Some x) (find test xs) ≡ None → cond (not b) (1 + position_or_len test xs) 0 ≡ suc (length xs)
    by_case true more k = absurd (cc)
    by_case false more k = omega (arith, more k)

pub found_at : {X : Type 0} (test : X → Bool) (xs : List X) (i : ℕ) → position test xs ≡ Some i → (x : X) × (find test xs ≡ Some x)
found_at {X} test xs i h = by_case (find test xs) refl
  where
    by_len : (b : Bool) → nat_lt (position_or_len test xs) (length xs) ≡ b → cond b (Some (position_or_len test xs)) None ≡ Some i → position_or_len test xs ≡ length xs → (x : X) × (find test xs ≡ Some x)
    by_len true e k at = absurd (omega (arith, ltb-true _ _ e, at))
    by_len false e k at = absurd (cc)

    by_case : (o : Option X) → find test xs ≡ o → (x : X) × (find test xs ≡ Some x)
    by_case (Some x) e = (x, e)
    by_case None e = by_len (nat_lt (position_or_len test xs) (length xs)) refl h (len_at test xs e)

-- and where none is found none has a place
pub nowhere : {X : Type 0} (test : X → Bool) (xs : List X) → find test xs ≡ None → position test xs ≡ None
nowhere {X} test xs h = by_case (nat_lt (position_or_len test xs) (length xs)) refl
  where
    by_case : (b : Bool) → nat_lt (position_or_len test xs) (length xs) ≡ b → cond b (Some (position_or_len test xs)) None ≡ None
    by_case true e = absurd (omega (arith, ltb-true _ _ e, len_at test xs h))
    by_case false e = refl
