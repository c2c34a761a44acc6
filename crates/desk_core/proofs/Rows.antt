-- The entries of a seat, and how many they are.
use Rattle.std.proofs.Common.{◌≡◌, ◌≢◌, ℕ, ◌+◌, ◌<◌, ◌≤◌, List, [], ◌∷◌, ◌++◌, true, false, ◌==◌, refl, sym, ap, ◌∙◌, subst, arith, length, All, count_by, add-zero, eq-eqb}
use Rattle.std.specs.Prelude.{if◌then◌else◌, cond}
use Rattle.std.proofs.lemmas.Bool.Decides.{nat_tests}
use Rattle.std.proofs.lemmas.List.Elements.{All-tail}
use Rattle.std.proofs.lemmas.List.Sums.{sum_by-cons, sum_by-append}
use Rattle.desk_core.specs.Seats.{Numbered, entries_of}

abbrev pub seat_count : ℕ → List ℕ → ℕ
seat_count seat ss = count_by (λ s. s == seat) ss

pub unlike : (s seat : ℕ) → s ≢ seat → (s == seat) ≡ false
unlike s seat differ = grind (arith, nat_tests)

-- the first entry is the seat's, or another's
pub count_own : (seat s : ℕ) (ss : List ℕ) → s ≡ seat → seat_count seat (s ∷ ss) ≡ 1 + seat_count seat ss
count_own seat s ss own = sum_by-cons (λ t. cond (t == seat) 1 0) s ss ∙ ap (λ b. cond b 1 0 + seat_count seat ss) (eq-eqb s seat own)

pub count_other : (seat s : ℕ) (ss : List ℕ) → s ≢ seat → seat_count seat (s ∷ ss) ≡ seat_count seat ss
count_other seat s ss differ =
    let e = sum_by-cons (λ t. cond (t == seat) 1 0) s ss ∙ ap (λ b. cond b 1 0 + seat_count seat ss) (unlike s seat differ) in omega arith

pub entries_own : {E : Type 0} (seat n s : ℕ) (e : E) (ss : List ℕ) (es : List E) → s ≡ seat
    → entries_of seat n (s ∷ ss) (e ∷ es) ≡ record { number = n; entry = e } ∷ entries_of seat (n + 1) ss es
entries_own {E} seat n s e ss es own =
    let rest : List (Numbered E) = entries_of seat (n + 1) ss es in
    let first : Numbered E = record { number = n; entry = e } in
    ap (λ b. if b then first ∷ rest else rest) (eq-eqb s seat own)

pub entries_other : {E : Type 0} (seat n s : ℕ) (e : E) (ss : List ℕ) (es : List E) → s ≢ seat → entries_of seat n (s ∷ ss) (e ∷ es) ≡ entries_of seat (n + 1) ss es
entries_other {E} seat n s e ss es differ =
    let rest : List (Numbered E) = entries_of seat (n + 1) ss es in
    let first : Numbered E = record { number = n; entry = e } in
    ap (λ b. if b then first ∷ rest else rest) (unlike s seat differ)

-- a seat above all others has no entry
pub entries_none : {E : Type 0} (k seat n : ℕ) (ss : List ℕ) (es : List E) → All (λ s. s ≤ k) ss → k < seat → entries_of seat n ss es ≡ []
entries_none k seat n [] es h above = refl
entries_none k seat n (s ∷ ss) [] h above = refl
entries_none k seat n (s ∷ ss) (e ∷ es) h above =
    let low : s ≤ k = h 0 0 (omega arith) in
    entries_other seat n s e ss es (λ own. omega arith) ∙ entries_none k seat (n + 1) ss es (All-tail (λ (q : ℕ). q ≤ k) s ss h) above

pub count_above : (k seat : ℕ) (ss : List ℕ) → All (λ s. s ≤ k) ss → k < seat → seat_count seat ss ≡ 0
count_above k seat [] h above = refl
count_above k seat (s ∷ ss) h above =
    let low : s ≤ k = h 0 0 (omega arith) in
    count_other seat s ss (λ own. omega arith) ∙ count_above k seat ss (All-tail (λ (q : ℕ). q ≤ k) s ss h) above

-- one entry more at the end
pub count_pushed : (seat t : ℕ) (ss : List ℕ) → seat_count seat (ss ++ t ∷ []) ≡ seat_count seat ss + seat_count seat (t ∷ [])
count_pushed seat t ss = sum_by-append (λ s. cond (s == seat) 1 0) ss (t ∷ [])

pub count_pushed_own : (seat : ℕ) (ss : List ℕ) → seat_count seat (ss ++ seat ∷ []) ≡ seat_count seat ss + 1
count_pushed_own seat ss = let e = count_pushed seat seat ss in let f = count_own seat seat [] refl in omega arith

pub count_pushed_other : (seat t : ℕ) (ss : List ℕ) → t ≢ seat → seat_count seat (ss ++ t ∷ []) ≡ seat_count seat ss
count_pushed_other seat t ss differ = let e = count_pushed seat t ss in let f = count_other seat t [] differ in omega arith

-- an entry of a seat is its last one
pub entries_pushed : {E : Type 0} (seat n : ℕ) (ss : List ℕ) (es : List E) (e : E) → length ss ≡ length es
    → entries_of seat n (ss ++ seat ∷ []) (es ++ e ∷ []) ≡ entries_of seat n ss es ++ record { number = n + length es; entry = e } ∷ []
entries_pushed {E} seat n [] [] e h =
    let P : ℕ → Type 0 = λ m. entries_of seat n (seat ∷ []) (e ∷ []) ≡ record { number = m; entry = e } ∷ [] in
    subst P (sym (add-zero n)) (entries_own seat n seat e [] [] refl)
entries_pushed seat n [] (f ∷ es) e h = cc
entries_pushed seat n (s ∷ ss) [] e h = cc
entries_pushed {E} seat n (s ∷ ss) (f ∷ es) e h =
    let last : List (Numbered E) = record { number = n + length (f ∷ es); entry = e } ∷ [] in
    let first : Numbered E = record { number = n; entry = f } in
    let P : ℕ → Type 0 = λ m. entries_of seat (n + 1) (ss ++ seat ∷ []) (es ++ e ∷ []) ≡ entries_of seat (n + 1) ss es ++ record { number = m; entry = e } ∷ [] in
    let ih = subst P (omega arith) (entries_pushed seat (n + 1) ss es e (omega arith)) in
    ap (λ rs. if s == seat then first ∷ rs else rs) ih
    ∙ elim (s == seat) as (λ b. (if b then first ∷ (entries_of seat (n + 1) ss es ++ last) else (entries_of seat (n + 1) ss es ++ last)) ≡ (if b then first ∷ entries_of seat (n + 1) ss es else entries_of seat (n + 1) ss es) ++ last) [ true ↦ refl | false ↦ refl ]
