-- Dominant shares beside those whose they are.
use Rattle.std.proofs.Common.{◌≡◌, ℕ, zero, suc, ◌<◌, ◌≤◌, Bool, true, false, cond, List, [], ◌∷◌, ◌++◌, length, set, take, get_or, Some, None, MatchBool, refl, sym, ap, subst, ◌∙◌, arith}
use Rattle.std.specs.Prelude.{option_map}
use Rattle.std.specs.List.{position, find}
use Rattle.std.proofs.lemmas.List.{get_or_default}
use Rattle.std.proofs.lemmas.List.Quantifiers.{position-Some}
use Rattle.quantity.specs.declared.rows.Row.{Row}
use Rattle.drf_shares.specs.Dominant.{IsDominant, Part, nothing}
use Rattle.drf_shares.proofs.Dominating.{nothing_held}
use Rattle.drf_pick.specs.Shares.{at_first}
use Rattle.drf_pick.specs.Fractions.{AreDominant, AreDominantBut}
use Rattle.drf_pick.proofs.Places.{first_at, found_at}

-- there are at least as many
pub room : {X : Type 0} (held : X → List Row) (t : List Row) (xs : List X) (fs : List Part) → AreDominant held t xs fs → length xs ≤ length fs
room held t [] fs all = omega arith
room held t (x ∷ xs) [] all = absurd all
room held t (x ∷ xs) (f ∷ fs) all = omega (arith, room held t xs fs all.1)

-- the one at a place
pub beside : {X : Type 0} (held : X → List Row) (t : List Row) (xs : List X) (fs : List Part) (i : ℕ) (x : X) (f : Part) → AreDominant held t xs fs → i < length xs → x ≡ get_or xs i x → f ≡ get_or fs i f → IsDominant t (held x) f
beside held t [] fs i x f all within is at = absurd (omega arith)
beside held t (y ∷ ys) [] i x f all within is at = absurd all
beside {X} held t (y ∷ ys) (g ∷ gs) zero x f all within is at =
    subst (λ (z : X). IsDominant t (held z) f) (sym is) (subst (λ (p : Part). IsDominant t (held y) p) (sym at) all.0)
beside held t (y ∷ ys) (g ∷ gs) (suc i) x f all within is at = beside held t ys gs i x f all.1 (omega arith) is at

-- what stands at the first place that passes a test
pub record Stands {X : Type 0} (test : X → Bool) (xs : List X) (i : ℕ) : Type 0 where
  pub item : X
  pub within : i < length xs
  pub is : item ≡ get_or xs i item
  pub passes : test item ≡ true
  pub found : find test xs ≡ Some item
  pub earlier : (k : ℕ) → k < i → test (get_or xs k item) ≡ false

pub stands : {X : Type 0} (test : X → Bool) (xs : List X) (i : ℕ) → position test xs ≡ Some i → Stands test xs i
stands {X} test xs i at = by_item (found_at test xs i at)
  where
    by_item : ((x : X) × (find test xs ≡ Some x)) → Stands test xs i
    by_item x =
        let p = position-Some test xs i x.0 at in
        let is : get_or xs i x.0 ≡ get_or xs i (get_or xs i x.0) = get_or_default xs i x.0 (get_or xs i x.0) p.0 in
        let first = first_at test xs i (get_or xs i x.0) at is in
        record {
          item = get_or xs i x.0;
          within = p.0;
          is = is;
          passes = p.1;
          found = first.found;
          earlier = λ k below. (position-Some test xs i (get_or xs i x.0) at).2 k below;
        }

-- the one behind those so far
pub pushed : {X : Type 0} (held : X → List Row) (t : List Row) (xs : List X) (fs : List Part) (i : ℕ) (x : X) (f : Part) → AreDominant held t (take i xs) fs → length fs ≡ i → i < length xs → x ≡ get_or xs i x → IsDominant t (held x) f
    → AreDominant held t (take (suc i) xs) (fs ++ f ∷ [])
pushed held t [] fs i x f all count within is d = absurd (omega arith)
pushed {X} held t (y ∷ ys) [] zero x f all count within is d = (subst (λ (z : X). IsDominant t (held z) f) is d, tt)
pushed held t (y ∷ ys) (g ∷ gs) zero x f all count within is d = absurd (omega (arith, count))
pushed held t (y ∷ ys) [] (suc i) x f all count within is d = absurd (omega (arith, count))
pushed held t (y ∷ ys) (g ∷ gs) (suc i) x f all count within is d = (all.0, pushed held t ys gs i x f all.1 (omega (arith, count)) (omega arith) is d)

-- one more that holds nothing

pub cut : {X : Type 0} (held : X → List Row) (t : List Row) (xs : List X) (fs : List Part) → AreDominant held t xs fs → AreDominant held t xs (take (length xs) fs)
cut held t [] fs all = tt
cut held t (x ∷ xs) [] all = absurd all
cut held t (x ∷ xs) (f ∷ fs) all = (all.0, cut held t xs fs all.1)

pub kept : {X : Type 0} (held : X → List Row) (t : List Row) (xs : List X) (fs more : List Part) → AreDominant held t xs fs → AreDominant held t xs (take (length xs) fs ++ more)
kept held t [] fs more all = tt
kept held t (x ∷ xs) [] more all = absurd all
kept held t (x ∷ xs) (f ∷ fs) more all = (all.0, kept held t xs fs more all.1)

pub one_more : {X : Type 0} (held : X → List Row) (t : List Row) (xs : List X) (x : X) (fs : List Part) → held x ≡ [] → AreDominant held t xs fs → AreDominant held t (xs ++ x ∷ []) (take (length xs) fs ++ nothing ∷ [])
one_more held t [] x fs none all = (subst (λ (rows : List Row). IsDominant t rows nothing) (sym none) (nothing_held t), tt)
one_more held t (y ∷ ys) x [] none all = absurd all
one_more held t (y ∷ ys) x (f ∷ fs) none all = (all.0, one_more held t ys x fs none all.1)

-- the first that passes a test is changed

-- what it holds stays
pub held_same : {X : Type 0} (held : X → List Row) (test : X → Bool) (change : X → X) (t : List Row) → ((x : X) → held (change x) ≡ held x) → (xs : List X) (fs : List Part) → AreDominant held t xs fs → AreDominant held t (at_first test change xs) fs
held_same held test change t same [] fs all = tt
held_same held test change t same (x ∷ xs) [] all = absurd all
held_same held test change t same (x ∷ xs) (f ∷ fs) all = by_case (test x) (held_same held test change t same xs fs all.1)
  where
    by_case : (b : Bool) → AreDominant held t (at_first test change xs) fs → AreDominant held t (cond b (change x ∷ xs) (x ∷ at_first test change xs)) (f ∷ fs)
    by_case true ih = (subst (λ (rows : List Row). IsDominant t rows f) (sym (same x)) all.0, all.1)
    by_case false ih = (all.0, ih)

-- those of the others stay
pub others : {X : Type 0} (held : X → List Row) (test : X → Bool) (change : X → X) (t : List Row) → ((x : X) → test (change x) ≡ test x) → (xs : List X) (fs : List Part) → AreDominant held t xs fs → AreDominantBut held test t (at_first test change xs) fs
others held test change t same [] fs all = tt
others held test change t same (x ∷ xs) [] all = absurd all
others held test change t same (x ∷ xs) (f ∷ fs) all = by_case (test x) refl (others held test change t same xs fs all.1)
  where
    by_case : (b : Bool) → test x ≡ b → AreDominantBut held test t (at_first test change xs) fs → AreDominantBut held test t (cond b (change x ∷ xs) (x ∷ at_first test change xs)) (f ∷ fs)
    by_case true e ih = subst (λ b. MatchBool b (AreDominant held t xs fs) (IsDominant t (held (change x)) f × AreDominantBut held test t xs fs)) (sym (same x ∙ e)) all.1
    by_case false e ih = subst (λ b. MatchBool b (AreDominant held t (at_first test change xs) fs) (IsDominant t (held x) f × AreDominantBut held test t (at_first test change xs) fs)) (sym e) (all.0, ih)

-- one more, of which no part is told, where no other passes
pub others_more : {X : Type 0} (held : X → List Row) (test : X → Bool) (t : List Row) (xs : List X) (x : X) (fs : List Part) (p : Part) → find test xs ≡ None → test x ≡ true → AreDominant held t xs fs → AreDominantBut held test t (xs ++ x ∷ []) (take (length xs) fs ++ p ∷ [])
others_more held test t [] x fs p none passes all = subst (λ b. MatchBool b (AreDominant held t [] []) (IsDominant t (held x) p × AreDominantBut held test t [] [])) (sym passes) tt
others_more held test t (y ∷ ys) x [] p none passes all = absurd all
others_more {X} held test t (y ∷ ys) x (f ∷ fs) p none passes all = by_case (test y) refl none (λ n. others_more held test t ys x fs p n passes all.1)
  where
    by_case : (b : Bool) → test y ≡ b → cond b (Some y) (find test ys) ≡ None → (find test ys ≡ None → AreDominantBut held test t (ys ++ x ∷ []) (take (length ys) fs ++ p ∷ []))
        → MatchBool (test y) (AreDominant held t (ys ++ x ∷ []) (take (length ys) fs ++ p ∷ [])) (IsDominant t (held y) f × AreDominantBut held test t (ys ++ x ∷ []) (take (length ys) fs ++ p ∷ []))
    by_case true e n ih = absurd (cc)
    by_case false e n ih = subst (λ b. MatchBool b (AreDominant held t (ys ++ x ∷ []) (take (length ys) fs ++ p ∷ [])) (IsDominant t (held y) f × AreDominantBut held test t (ys ++ x ∷ []) (take (length ys) fs ++ p ∷ []))) (sym e) (all.0, ih n)

-- the next one is made anew
pub next_renewed : {X : Type 0} (held : X → List Row) (t : List Row) (xs : List X) (fs : List Part) (i : ℕ) (x : X) (f : Part) → i < length xs → length xs ≤ length fs → x ≡ get_or xs i x → AreDominant held t (take i xs) fs → IsDominant t (held x) f
    → AreDominant held t (take (suc i) xs) (set fs i f)
next_renewed held t [] fs i x f within room is all d = absurd (omega arith)
next_renewed held t (y ∷ ys) [] i x f within room is all d = absurd (omega (arith, room))
next_renewed {X} held t (y ∷ ys) (g ∷ gs) zero x f within room is all d = (subst (λ (z : X). IsDominant t (held z) f) is d, tt)
next_renewed held t (y ∷ ys) (g ∷ gs) (suc i) x f within room is all d = (all.0, next_renewed held t ys gs i x f (omega arith) (omega (arith, room)) is all.1 d)

pub many_kept : (n : ℕ) (fs : List Part) (p : Part) → n ≤ length fs → length (take n fs ++ p ∷ []) ≡ suc n
many_kept zero fs p most = refl
many_kept (suc n) [] p most = absurd (omega (arith, most))
many_kept (suc n) (f ∷ fs) p most = ap suc (many_kept n fs p (omega (arith, most)))

-- where none passes none is left out
pub no_other : {X : Type 0} (held : X → List Row) (test : X → Bool) (t : List Row) (xs : List X) (fs : List Part) → find test xs ≡ None → AreDominantBut held test t xs fs → AreDominant held t xs fs
no_other held test t [] fs none all = tt
no_other held test t (x ∷ xs) [] none all = absurd all
no_other {X} held test t (x ∷ xs) (f ∷ fs) none all = by_case (test x) none all (λ n b. no_other held test t xs fs n b)
  where
    by_case : (b : Bool) → cond b (Some x) (find test xs) ≡ None → MatchBool b (AreDominant held t xs fs) (IsDominant t (held x) f × AreDominantBut held test t xs fs)
        → (find test xs ≡ None → AreDominantBut held test t xs fs → AreDominant held t xs fs) → IsDominant t (held x) f × AreDominant held t xs fs
    by_case true n a ih = absurd (cc)
    by_case false n a ih = (a.0, ih n a.1)

-- the one that was left out is made anew
pub first_renewed : {X : Type 0} (held : X → List Row) (test : X → Bool) (t : List Row) (xs : List X) (fs : List Part) (i : ℕ) (x : X) (f : Part) → i < length xs → x ≡ get_or xs i x → test x ≡ true → ((k : ℕ) → k < i → test (get_or xs k x) ≡ false)
    → AreDominantBut held test t xs fs → IsDominant t (held x) f → AreDominant held t xs (set fs i f)
first_renewed held test t [] fs i x f within is passes earlier all d = absurd (omega arith)
first_renewed held test t (y ∷ ys) [] i x f within is passes earlier all d = absurd all
first_renewed {X} held test t (y ∷ ys) (g ∷ gs) zero x f within is passes earlier all d =
    let rest : AreDominant held t ys gs = subst (λ b. MatchBool b (AreDominant held t ys gs) (IsDominant t (held y) g × AreDominantBut held test t ys gs)) (ap test (sym is) ∙ passes) all in
    (subst (λ (z : X). IsDominant t (held z) f) is d, rest)
first_renewed {X} held test t (y ∷ ys) (g ∷ gs) (suc i) x f within is passes earlier all d =
    let rest : IsDominant t (held y) g × AreDominantBut held test t ys gs = subst (λ b. MatchBool b (AreDominant held t ys gs) (IsDominant t (held y) g × AreDominantBut held test t ys gs)) (earlier 0 (omega arith)) all in
    (rest.0, first_renewed held test t ys gs i x f (omega arith) is passes (λ k below. earlier (suc k) (omega arith)) rest.1 d)

-- there are enough where but one is in its place
pub room_but : {X : Type 0} (held : X → List Row) (test : X → Bool) (t : List Row) (xs : List X) (fs : List Part) → AreDominantBut held test t xs fs → length xs ≤ length fs
room_but held test t [] fs all = omega arith
room_but held test t (x ∷ xs) [] all = absurd all
room_but held test t (x ∷ xs) (f ∷ fs) all = by_case (test x) all (λ a. room_but held test t xs fs a)
  where
    by_case : (b : Bool) → MatchBool b (AreDominant held t xs fs) (IsDominant t (held x) f × AreDominantBut held test t xs fs) → (AreDominantBut held test t xs fs → length xs ≤ length fs) → suc (length xs) ≤ suc (length fs)
    by_case true a ih = omega (arith, room held t xs fs a)
    by_case false a ih = omega (arith, ih a.1)

-- the one that is found is found changed
pub found_changed : {X : Type 0} (test : X → Bool) (change : X → X) → ((x : X) → test (change x) ≡ test x) → (xs : List X) → find test (at_first test change xs) ≡ option_map change (find test xs)
found_changed test change same [] = refl
found_changed {X} test change same (x ∷ xs) = by_case (test x) refl (found_changed test change same xs)
  where
    by_case : (b : Bool) → test x ≡ b → find test (at_first test change xs) ≡ option_map change (find test xs) → find test (cond b (change x ∷ xs) (x ∷ at_first test change xs)) ≡ option_map change (cond b (Some x) (find test xs))
    by_case true e ih = rw (same x ∙ e) refl
    by_case false e ih = rw e ih

-- as they are kept behind so many

pub cut_to : {X : Type 0} (held : X → List Row) (t : List Row) (xs : List X) (fs now : List Part) (n : ℕ) → n ≡ length xs → now ≡ take n fs → AreDominant held t xs fs → AreDominant held t xs now
cut_to held t xs fs now n all is have = subst (AreDominant held t xs) (sym (is ∙ ap (λ (k : ℕ). take k fs) all)) (cut held t xs fs have)

pub kept_to : {X : Type 0} (held : X → List Row) (t : List Row) (xs : List X) (fs now : List Part) (n : ℕ) → n ≡ length xs → now ≡ take n fs ++ nothing ∷ [] → AreDominant held t xs fs → AreDominant held t xs now
kept_to held t xs fs now n all is have = subst (AreDominant held t xs) (sym (is ∙ ap (λ (k : ℕ). take k fs ++ nothing ∷ []) all)) (kept held t xs fs (nothing ∷ []) have)

pub more_to : {X : Type 0} (held : X → List Row) (t : List Row) (xs : List X) (x : X) (fs now : List Part) (n : ℕ) → held x ≡ [] → n ≡ length xs → now ≡ take n fs ++ nothing ∷ [] → AreDominant held t xs fs → AreDominant held t (xs ++ x ∷ []) now
more_to held t xs x fs now n none all is have = subst (AreDominant held t (xs ++ x ∷ [])) (sym (is ∙ ap (λ (k : ℕ). take k fs ++ nothing ∷ []) all)) (one_more held t xs x fs none have)
