-- How the length of a part goes on from byte to byte, and what more input changes of it.
use Rattle.std.proofs.Common.{◌≡◌, ℕ, ◌+◌, ◌<◌, ◌≤◌, Bool, true, false, cond, List, [], ◌∷◌, ◌++◌, length, take, drop, get_or, Some, None, sym, refl, ap, ◌∙◌, arith}
use Rattle.std.proofs.lemmas.List.{drop_more, drop_all, take_more, take-append-drop, take-append-le, length-take, length-append}
use Rattle.std.proofs.lemmas.Bool.{cond-true, cond-false}
use Rattle.http_head.specs.declared.cut.Place.{Place}
use Rattle.http_head.specs.declared.cut.Scan.{Scan}
use Rattle.http_head.specs.Cuts.{is_last, place_after, place_behind, cut_after, cut_len, HasSeen}

pub after_none : (n : ℕ) (p : Place) → cut_after n p [] ≡ None
unfolding cut_after
after_none n p = refl

after_one : (n : ℕ) (p : Place) (b : ℕ) (bs : List ℕ) → cut_after n p (b ∷ bs) ≡ cond (is_last p b) (Some (n + 1)) (cut_after (n + 1) (place_after p b) bs)
unfolding cut_after
after_one n p b bs = refl

pub one_hit : (n : ℕ) (p : Place) (b : ℕ) (bs : List ℕ) → is_last p b ≡ true → cut_after n p (b ∷ bs) ≡ Some (n + 1)
one_hit n p b bs is = after_one n p b bs ∙ cond-true _ _ _ is

pub one_miss : (n : ℕ) (p : Place) (b : ℕ) (bs : List ℕ) → is_last p b ≡ false → cut_after n p (b ∷ bs) ≡ cut_after (n + 1) (place_after p b) bs
one_miss n p b bs is = after_one n p b bs ∙ cond-false _ _ _ is

-- the byte at i, where the bytes from i on are looked at
pub after_hit : (n : ℕ) (p : Place) (xs : List ℕ) (i : ℕ) → i < length xs → is_last p (get_or xs i 0) ≡ true
    → cut_after n p (drop i xs) ≡ Some (n + 1)
after_hit n p xs i inside is = ap (cut_after n p) (drop_more xs i 0 inside) ∙ one_hit n p _ _ is

pub after_miss : (n : ℕ) (p : Place) (xs : List ℕ) (i : ℕ) → i < length xs → is_last p (get_or xs i 0) ≡ false
    → cut_after n p (drop i xs) ≡ cut_after (n + 1) (place_after p (get_or xs i 0)) (drop (i + 1) xs)
after_miss n p xs i inside is = ap (cut_after n p) (drop_more xs i 0 inside) ∙ one_miss n p _ _ is

pub after_end : (n : ℕ) (p : Place) (xs : List ℕ) (i : ℕ) → length xs ≤ i → cut_after n p (drop i xs) ≡ None
after_end n p xs i over = ap (cut_after n p) (drop_all i xs over) ∙ after_none n p

-- the head ends behind at least one byte, and within the text
pub after_bounds : (n : ℕ) (p : Place) (xs : List ℕ) (k : ℕ) → cut_after n p xs ≡ Some k → (n < k) × (k ≤ n + length xs)
after_bounds n p [] k is = let bad : None ≡ Some k = sym (after_none n p) ∙ is in absurd cc
after_bounds n p (b ∷ bs) k is = by_test (is_last p b) refl (after_bounds (n + 1) (place_after p b) bs k)
  where
    by_test : (t : Bool) → is_last p b ≡ t → (cut_after (n + 1) (place_after p b) bs ≡ Some k → (n + 1 < k) × (k ≤ (n + 1) + length bs)) → (n < k) × (k ≤ n + length (b ∷ bs))
    by_test true hit rec = let same : Some (n + 1) ≡ Some k = sym (one_hit n p b bs hit) ∙ is in let eq : n + 1 ≡ k = cc in (omega arith, omega arith)
    by_test false miss rec =
        let later = rec (sym (one_miss n p b bs miss) ∙ is) in
        (omega arith, omega arith)

pub cut_bounds : (p : Place) (xs : List ℕ) (k : ℕ) → cut_len p xs ≡ Some k → (0 < k) × (k ≤ length xs)
cut_bounds p xs k is = let b = after_bounds 0 p xs k is in (b.0, omega arith)

-- ---- a text in two pieces

pub behind_one : (p : Place) (b : ℕ) (bs : List ℕ) → place_behind p (b ∷ bs) ≡ place_behind (place_after p b) bs
unfolding place_behind
behind_one p b bs = refl

pub behind_none : (p : Place) → place_behind p [] ≡ p
unfolding place_behind
behind_none p = refl

pub behind_append : (p : Place) (xs ys : List ℕ) → place_behind p (xs ++ ys) ≡ place_behind (place_behind p xs) ys
behind_append p [] ys = ap (λ (q : Place). place_behind q ys) (sym (behind_none p))
behind_append p (x ∷ xs) ys = behind_one p x (xs ++ ys) ∙ behind_append (place_after p x) xs ys ∙ ap (λ (q : Place). place_behind q ys) (sym (behind_one p x xs))

pub behind_more : (p : Place) (xs : List ℕ) (i : ℕ) → i < length xs → place_behind p (take (i + 1) xs) ≡ place_after (place_behind p (take i xs)) (get_or xs i 0)
behind_more p xs i inside =
    ap (place_behind p) (take_more xs i 0 inside) ∙ behind_append p (take i xs) (get_or xs i 0 ∷ []) ∙ behind_one (place_behind p (take i xs)) _ [] ∙ behind_none _

after_split : (n : ℕ) (p : Place) (xs ys : List ℕ) → cut_after n p xs ≡ None → cut_after n p (xs ++ ys) ≡ cut_after (n + length xs) (place_behind p xs) ys
after_split n p [] ys is = ap (λ (q : Place). cut_after n q ys) (sym (behind_none p)) ∙ ap (λ (m : ℕ). cut_after m (place_behind p []) ys) (omega arith)
after_split n p (x ∷ xs) ys is = by_test (is_last p x) refl (after_split (n + 1) (place_after p x) xs ys)
  where
    by_test : (t : Bool) → is_last p x ≡ t → (cut_after (n + 1) (place_after p x) xs ≡ None → cut_after (n + 1) (place_after p x) (xs ++ ys) ≡ cut_after ((n + 1) + length xs) (place_behind (place_after p x) xs) ys)
        → cut_after n p (x ∷ (xs ++ ys)) ≡ cut_after (n + length (x ∷ xs)) (place_behind p (x ∷ xs)) ys
    by_test true hit rec = let bad : Some (n + 1) ≡ None = sym (one_hit n p x xs hit) ∙ is in absurd cc
    by_test false miss rec =
        let size : (n + 1) + length xs ≡ n + length (x ∷ xs) = omega arith in
        one_miss n p x (xs ++ ys) miss ∙ rec (sym (one_miss n p x xs miss) ∙ is)
        ∙ ap (λ (m : ℕ). cut_after m (place_behind (place_after p x) xs) ys) size
        ∙ ap (λ (q : Place). cut_after (n + length (x ∷ xs)) q ys) (sym (behind_one p x xs))

zero_more : (n : ℕ) → n ≡ 0 + n
zero_more n = omega arith

-- what was looked through needn't be looked at again
pub seen_cut : (scan : Scan) (xs : List ℕ) → HasSeen scan xs → cut_after scan.seen scan.place (drop scan.seen xs) ≡ cut_len scan.start xs
seen_cut scan xs h =
    let size : length (take scan.seen xs) ≡ scan.seen = omega (arith, h.within, length-take scan.seen xs) in
    ap (λ (q : Place). cut_after scan.seen q (drop scan.seen xs)) h.place
    ∙ ap (λ (m : ℕ). cut_after m (place_behind scan.start (take scan.seen xs)) (drop scan.seen xs)) (sym size)
    ∙ ap (λ (m : ℕ). cut_after m (place_behind scan.start (take scan.seen xs)) (drop scan.seen xs)) (zero_more (length (take scan.seen xs)))
    ∙ sym (after_split 0 scan.start (take scan.seen xs) (drop scan.seen xs) h.none)
    ∙ ap (cut_len scan.start) (take-append-drop scan.seen xs)

-- it stays so when more has come
pub seen_more : (scan : Scan) (xs more : List ℕ) → HasSeen scan xs → HasSeen scan (xs ++ more)
seen_more scan xs more h =
    let same : take scan.seen xs ≡ take scan.seen (xs ++ more) = sym (take-append-le scan.seen xs more h.within) in
    record {
      within = omega (arith, h.within, length-append xs more);
      none = ap (cut_len scan.start) (sym same) ∙ h.none;
      place = h.place ∙ ap (place_behind scan.start) same;
    }

pub seen_nothing : (scan : Scan) (xs : List ℕ) → scan.seen ≡ 0 → scan.place ≡ scan.start → HasSeen scan xs
seen_nothing scan xs none at =
    let empty : take scan.seen xs ≡ [] = ap (λ (n : ℕ). take n xs) none in
    record {
      within = omega arith;
      none = ap (cut_len scan.start) empty ∙ after_none 0 scan.start;
      place = at ∙ sym (behind_none scan.start) ∙ ap (place_behind scan.start) (sym empty);
    }
