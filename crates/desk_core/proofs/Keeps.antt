-- What a desk keeps, after a seat more and after an entry more.
use Rattle.std.proofs.Common.{◌≡◌, ◌⊎◌, ℕ, ◌+◌, ◌-◌, ◌<◌, ◌≤◌, Bool, true, false, nat_le, List, [], ◌∷◌, ◌++◌, ◌==◌, eq-eqb, inl, inr, refl, sym, ap, ◌∙◌, subst, arith, length, All, get_or, set, length-append, length-set}
use Rattle.std.specs.Prelude.{if◌then◌else◌}
use Rattle.std.proofs.lemmas.Bool.{cases_lt}
use Rattle.std.proofs.lemmas.Bool.Decides.{nat_tests}
use Rattle.std.proofs.lemmas.List.{get_or_append_left, get_or_read, get_or-set_same, get_or-set_other}
use Rattle.std.proofs.lemmas.List.Sums.{count_by-le-length}
use Rattle.std.proofs.lemmas.List.Elements.{All-push}
use Rattle.std.proofs.Math.Seq.{get_or-append_seam}
use Rattle.desk_core.specs.Kept.{CountsSeats, IsKept, counts_with}
use Rattle.desk_core.specs.Seats.{entered_as}
use Rattle.desk_core.proofs.Rows.{seat_count, count_above, count_pushed_own, count_pushed_other, unlike}

abbrev At : List ℕ → ℕ → List ℕ → Type 0
At counts i seats = get_or counts i 0 ≡ seat_count (i + 1) seats

seat_more : (counts seats : List ℕ) (i : ℕ) → CountsSeats counts seats → All (λ s. s ≤ length counts) seats → i < length counts + 1
    → (i < length counts) ⊎ (length counts ≤ i) → At (counts ++ 0 ∷ []) i seats
seat_more counts seats i c low within (inl old) = get_or_append_left counts (0 ∷ []) 0 i old ∙ c i old
seat_more counts seats i c low within (inr new) =
    let P : ℕ → Type 0 = λ k. At (counts ++ 0 ∷ []) k seats in
    subst P (omega arith) (get_or-append_seam counts 0 [] 0 ∙ sym (count_above (length counts) (length counts + 1) seats low (omega arith)))

-- one seat more
pub seat_opened : (entries : ℕ) (seats counts now : List ℕ) (total parts left : ℕ) → IsKept entries seats counts total parts
    → length counts < 4294967295 → now ≡ counts ++ 0 ∷ [] → left + 1 ≡ parts → IsKept entries seats now total left
seat_opened entries seats counts now total parts left k few is less =
    let long : length now ≡ length counts + 1 = let e = ap length is in let l = length-append counts (0 ∷ []) in omega arith in
    let p = k.parts_left in
    record {
      seated = k.seated;
      opened = λ i d within. (let h = k.opened i d within in omega arith);
      counts_seats = λ i within. subst (λ (cs : List ℕ). At cs i seats) (sym is) (seat_more counts seats i k.counts_seats k.opened (omega arith) (cases_lt i (length counts)));
      counted = k.counted;
      parts_left = omega arith;
      some_left = omega arith;
    }

entry_more : (counts seats : List ℕ) (seat i : ℕ) → CountsSeats counts seats → 0 < seat → seat ≤ length counts → i < length counts
    → (i < seat - 1) ⊎ (seat - 1 ≤ i) → (seat - 1 < i) ⊎ (i ≤ seat - 1) → At (set counts (seat - 1) (get_or counts (seat - 1) 0 + 1)) i (seats ++ seat ∷ [])
entry_more counts seats seat i c some within_opened within (inl less) above =
    get_or-set_other counts (seat - 1) i (get_or counts (seat - 1) 0 + 1) 0 (λ same. omega arith) ∙ c i within ∙ sym (count_pushed_other (i + 1) seat seats (λ same. omega arith))
entry_more counts seats seat i c some within_opened within (inr below) (inl more) =
    get_or-set_other counts (seat - 1) i (get_or counts (seat - 1) 0 + 1) 0 (λ same. omega arith) ∙ c i within ∙ sym (count_pushed_other (i + 1) seat seats (λ same. omega arith))
entry_more counts seats seat i c some within_opened within (inr below) (inr above) =
    let P : ℕ → Type 0 = λ k. At (set counts (seat - 1) (get_or counts (seat - 1) 0 + 1)) k (seats ++ seat ∷ []) in
    let Q : ℕ → Type 0 = λ s. get_or (set counts (seat - 1) (get_or counts (seat - 1) 0 + 1)) (seat - 1) 0 ≡ seat_count s (seats ++ seat ∷ []) in
    let here : seat ≡ seat - 1 + 1 = omega arith in
    let own = get_or-set_same counts (seat - 1) (get_or counts (seat - 1) 0 + 1) 0 (omega arith) ∙ ap (λ n. n + 1) (c (seat - 1) (omega arith) ∙ ap (λ s. seat_count s seats) (sym here)) ∙ sym (count_pushed_own seat seats) in
    subst P (omega arith) (subst Q here own)

-- one entry more, of an opened seat
pub entry_made : (entries more : ℕ) (seats now_seats counts now : List ℕ) (total parts seat : ℕ) → IsKept entries seats counts total parts → 0 < seat → seat ≤ length counts
    → more ≡ entries + 1 → now_seats ≡ seats ++ seat ∷ [] → now ≡ set counts (seat - 1) (get_or counts (seat - 1) 0 + 1) → IsKept more now_seats now total parts
entry_made entries more seats now_seats counts now total parts seat k some within_opened larger longer is =
    let same : length now ≡ length counts = ap length is ∙ length-set counts (seat - 1) (get_or counts (seat - 1) 0 + 1) in
    let s = k.seated in
    let p = k.parts_left in
    let t = k.counted in
    let grown : length now_seats ≡ length seats + 1 = let e = ap length longer in let l = length-append seats (seat ∷ []) in omega arith in
    let low : All (λ (q : ℕ). q ≤ length counts) (seats ++ seat ∷ []) = All-push (λ (q : ℕ). q ≤ length counts) seats seat k.opened within_opened in
    record {
      seated = omega arith;
      opened = subst (λ (ss : List ℕ). All (λ (q : ℕ). q ≤ length now) ss) (sym longer) (subst (λ (n : ℕ). All (λ (q : ℕ). q ≤ n) (seats ++ seat ∷ [])) (sym same) low);
      counts_seats = λ i within. subst (λ (ss : List ℕ). At now i ss) (sym longer) (subst (λ (cs : List ℕ). At cs i (seats ++ seat ∷ [])) (sym is)
          (entry_more counts seats seat i k.counts_seats some within_opened (omega arith) (cases_lt i (seat - 1)) (cases_lt (seat - 1) i)));
      counted = omega arith;
      parts_left = omega arith;
      some_left = k.some_left;
    }

-- one entry more, of nobody
nobody_made : (entries more : ℕ) (seats now_seats counts now : List ℕ) (total parts seat : ℕ) → IsKept entries seats counts total parts → seat ≡ 0
    → more ≡ entries + 1 → now_seats ≡ seats ++ seat ∷ [] → now ≡ counts → IsKept more now_seats now total parts
nobody_made entries more seats now_seats counts now total parts seat k zero larger longer is =
    let same : length now ≡ length counts = ap length is in
    let s = k.seated in
    let p = k.parts_left in
    let t = k.counted in
    let grown : length now_seats ≡ length seats + 1 = let e = ap length longer in let l = length-append seats (seat ∷ []) in omega arith in
    let low : All (λ (q : ℕ). q ≤ length counts) (seats ++ seat ∷ []) = All-push (λ (q : ℕ). q ≤ length counts) seats seat k.opened (omega arith) in
    record {
      seated = omega arith;
      opened = subst (λ (ss : List ℕ). All (λ (q : ℕ). q ≤ length now) ss) (sym longer) (subst (λ (n : ℕ). All (λ (q : ℕ). q ≤ n) (seats ++ seat ∷ [])) (sym same) low);
      counts_seats = λ i within. subst (λ (ss : List ℕ). At now i ss) (sym longer) (subst (λ (cs : List ℕ). At cs i (seats ++ seat ∷ [])) (sym is)
          (k.counts_seats i (omega arith) ∙ sym (count_pushed_other (i + 1) seat seats (λ own. omega arith))));
      counted = omega arith;
      parts_left = omega arith;
      some_left = k.some_left;
    }

counts_of_seat : (seat : ℕ) (counts : List ℕ) → 0 < seat → counts_with seat counts ≡ set counts (seat - 1) (get_or counts (seat - 1) 0 + 1)
counts_of_seat seat counts some = ap (λ (b : Bool). if b then counts else set counts (seat - 1) (get_or counts (seat - 1) 0 + 1)) (unlike seat 0 (λ zero. omega arith))

counts_of_nobody : (seat : ℕ) (counts : List ℕ) → seat ≡ 0 → counts_with seat counts ≡ counts
counts_of_nobody seat counts zero = ap (λ (b : Bool). if b then counts else set counts (seat - 1) (get_or counts (seat - 1) 0 + 1)) (eq-eqb seat 0 zero)

-- one entry more, of an opened seat or of nobody
pub entry_entered : (entries more : ℕ) (seats now_seats counts now : List ℕ) (total parts seat : ℕ) → IsKept entries seats counts total parts → seat ≤ length counts
    → more ≡ entries + 1 → now_seats ≡ seats ++ seat ∷ [] → now ≡ counts_with seat counts → IsKept more now_seats now total parts
entry_entered entries more seats now_seats counts now total parts seat k within larger longer is = by (cases_lt 0 seat)
  where
    by : (0 < seat) ⊎ (seat ≤ 0) → IsKept more now_seats now total parts
    by (inl some) = entry_made entries more seats now_seats counts now total parts seat k some within larger longer (is ∙ counts_of_seat seat counts some)
    by (inr none) = let zero : seat ≡ 0 = omega arith in nobody_made entries more seats now_seats counts now total parts seat k zero larger longer (is ∙ counts_of_nobody seat counts zero)

-- the seat under which a step is entered is opened, or nobody's
pub entered_within : (opened seat : ℕ) → entered_as opened seat ≤ opened
entered_within opened seat = by (nat_le seat opened) refl
  where
    by : (b : Bool) → nat_le seat opened ≡ b → (if b then seat else 0) ≤ opened
    by true e = grind (arith, nat_tests)
    by false e = omega arith

-- it is the one that was asked for if that was opened
pub entered_own : (opened seat : ℕ) → seat ≤ opened → entered_as opened seat ≡ seat
entered_own opened seat within = ap (λ (b : Bool). if b then seat else 0) (let t : nat_le seat opened ≡ true = grind (arith, nat_tests) in t)

-- there is room for one entry more in the number of a seat
pub count_fits : (entries : ℕ) (seats counts : List ℕ) (total parts seat n : ℕ) → IsKept entries seats counts total parts → 0 < seat → seat ≤ length counts
    → entries ≤ 4294967294 → n ≡ get_or counts (seat - 1) n → n + 1 < 4294967296
count_fits entries seats counts total parts seat n k some within_opened few at =
    let read = get_or_read counts (seat - 1) n (omega arith) at 0 in
    let is = k.counts_seats (seat - 1) (omega arith) in
    let less = count_by-le-length (λ s. s == seat - 1 + 1) seats in
    let s = k.seated in
    omega arith

-- how many entries a seat has
pub counted_at : (entries : ℕ) (seats counts : List ℕ) (total parts seat n : ℕ) → IsKept entries seats counts total parts → 0 < seat → seat ≤ length counts
    → n ≡ get_or counts (seat - 1) n → n ≡ seat_count seat seats
counted_at entries seats counts total parts seat n k some within_opened at =
    get_or_read counts (seat - 1) n (omega arith) at 0 ∙ k.counts_seats (seat - 1) (omega arith) ∙ ap (λ s. seat_count s seats) (let e : seat - 1 + 1 ≡ seat = omega arith in e)
