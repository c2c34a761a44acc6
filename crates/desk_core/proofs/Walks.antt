-- Receipts that are walked by their numbers are the entries of their seat.
use Rattle.std.proofs.Common.{◌≡◌, ◌≢◌, ◌⊎◌, ℕ, suc, ◌+◌, ◌-◌, ◌<◌, ◌≤◌, List, [], ◌∷◌, inl, inr, refl, sym, ap, ◌∙◌, subst, arith, length, map, drop, Some, add-one, drop-cons}
use Rattle.std.specs.Prelude.{slice_get}
use Rattle.std.proofs.lemmas.Bool.{cases_lt}
use Rattle.std.proofs.lemmas.List.{drop_all}
use Rattle.std.proofs.lemmas.Option.{slice_get_within, get_or_from_slice_get}
use Rattle.std.proofs.lemmas.Bool.Decides.{eqb_tells}
use Rattle.desk_core.specs.declared.desk.pass.Receipt.{Receipt}
use Rattle.desk_core.specs.Receipts.{numbered}
use Rattle.desk_core.specs.Seats.{Numbered, entries_of}
use Rattle.desk_core.specs.Walked.{IsOfSeat, Rises}
use Rattle.desk_core.proofs.Rows.{seat_count, count_own, count_other, entries_own, entries_other}

-- behind the first entry
shift : {A : Type 0} (x : A) (xs : List A) (b n : ℕ) → b + 1 < n → slice_get (x ∷ xs) (n - (b + 1)) ≡ slice_get xs (n - (b + 1 + 1))
shift x xs b n above =
    let e : n - (b + 1) ≡ suc (n - (b + 1 + 1)) = omega arith in
    ap (λ k. slice_get (x ∷ xs) k) e

behind : {E : Type 0} (seat b s : ℕ) (e : E) (ss : List ℕ) (es : List E) (low : ℕ) (rs : List (Receipt E)) → b + 1 ≤ low
    → Rises seat b (s ∷ ss) (e ∷ es) low rs → Rises seat (b + 1) ss es low rs
behind seat b s e ss es low [] above h = tt
behind seat b s e ss es low (r ∷ rs) above h =
    let higher : b + 1 < r.number = let l = h.0 in omega arith in (
      h.0,
      (sym (shift s ss b r.number higher) ∙ h.1.0, sym (shift e es b r.number higher) ∙ h.1.1),
      behind seat b s e ss es r.number rs (omega arith) h.2,
    )

before : {E : Type 0} (seat b s : ℕ) (e : E) (ss : List ℕ) (es : List E) (low : ℕ) (rs : List (Receipt E)) → b + 1 ≤ low
    → Rises seat (b + 1) ss es low rs → Rises seat b (s ∷ ss) (e ∷ es) low rs
before seat b s e ss es low [] above h = tt
before seat b s e ss es low (r ∷ rs) above h =
    let higher : b + 1 < r.number = let l = h.0 in omega arith in (
      h.0,
      (shift s ss b r.number higher ∙ h.1.0, shift e es b r.number higher ∙ h.1.1),
      before seat b s e ss es r.number rs (omega arith) h.2,
    )

lower : {E : Type 0} (seat b : ℕ) (ss : List ℕ) (es : List E) (low under : ℕ) (rs : List (Receipt E)) → under ≤ low
    → Rises seat b ss es low rs → Rises seat b ss es under rs
lower seat b ss es low under [] less h = tt
lower seat b ss es low under (r ∷ rs) less h = ((let l = h.0 in omega arith), h.1, h.2)

-- there are no more receipts than entries of the seat, and where they are as many, they are these
pub record Fits {E : Type 0} (seat b : ℕ) (ss : List ℕ) (es : List E) (rs : List (Receipt E)) : Type 0 where
  pub few : length rs ≤ seat_count seat ss
  pub all : length rs ≡ seat_count seat ss → map numbered rs ≡ entries_of seat (b + 1) ss es

tell : (s seat : ℕ) → (s ≡ seat) ⊎ (s ≢ seat)
tell s seat = elim (eqb_tells s seat) [ inl h ↦ inl h.1 | inr h ↦ inr h.1 ]

-- none of the receipts is of the first entry
passes_over : {E : Type 0} (seat b s : ℕ) (e : E) (ss : List ℕ) (es : List E) (rs : List (Receipt E))
    → Fits seat (b + 1) ss es rs → (s ≡ seat) ⊎ (s ≢ seat) → Fits seat b (s ∷ ss) (e ∷ es) rs
passes_over seat b s e ss es rs f (inl own) =
    let c = count_own seat s ss own in
    let l = f.few in
    record { few = omega arith; all = λ same. absurd (omega arith) }
passes_over seat b s e ss es rs f (inr other) =
    let c = count_other seat s ss other in
    let l = f.few in
    record { few = omega arith; all = λ same. f.all (omega arith) ∙ sym (entries_other seat (b + 1) s e ss es other) }

-- the first receipt is of the first entry
starts_with : {E : Type 0} (seat b s : ℕ) (e : E) (ss : List ℕ) (es : List E) (r : Receipt E) (rs : List (Receipt E))
    → s ≡ seat → r.number ≡ b + 1 → e ≡ r.entry → Fits seat (b + 1) ss es rs → Fits seat b (s ∷ ss) (e ∷ es) (r ∷ rs)
starts_with {E} seat b s e ss es r rs own first same f =
    let c = count_own seat s ss own in
    let l = f.few in
    let head : Numbered E = record { number = b + 1; entry = e } in
    let is : numbered r ≡ head = ap (λ n. record { number = n; entry = r.entry }) first ∙ ap (λ x. record { number = b + 1; entry = x }) (sym same) in
    record {
      few = omega arith;
      all = λ as_many. ap (λ x. x ∷ map numbered rs) is ∙ ap (λ (xs : List (Numbered E)). head ∷ xs) (f.all (omega arith)) ∙ sym (entries_own seat (b + 1) s e ss es own);
    }

fits_first : {E : Type 0} (seat b s : ℕ) (e : E) (ss : List ℕ) (es : List E) (r : Receipt E) (rs : List (Receipt E))
    → ((qs : List (Receipt E)) → Rises seat (b + 1) ss es (b + 1) qs → Fits seat (b + 1) ss es qs)
    → Rises seat b (s ∷ ss) (e ∷ es) b (r ∷ rs) → (b + 1 < r.number) ⊎ (r.number ≤ b + 1) → Fits seat b (s ∷ ss) (e ∷ es) (r ∷ rs)
fits_first seat b s e ss es r rs rest h (inl more) =
    passes_over seat b s e ss es (r ∷ rs) (rest (r ∷ rs) (behind seat b s e ss es (b + 1) (r ∷ rs) (omega arith) (more, h.1, h.2))) (tell s seat)
fits_first seat b s e ss es r rs rest h (inr least) =
    let l = h.0 in
    let first : r.number ≡ b + 1 = omega arith in
    let none : 0 ≡ r.number - (b + 1) = omega arith in
    let seated : Some s ≡ Some seat = ap (λ k. slice_get (s ∷ ss) k) none ∙ h.1.0 in
    let entered : Some e ≡ Some r.entry = ap (λ k. slice_get (e ∷ es) k) none ∙ h.1.1 in
    let own : s ≡ seat = cc in
    let same : e ≡ r.entry = cc in
    starts_with seat b s e ss es r rs own first same (rest rs (lower seat (b + 1) ss es r.number (b + 1) rs (omega arith) (behind seat b s e ss es r.number rs (omega arith) h.2)))

pub fits : {E : Type 0} (seat b : ℕ) (ss : List ℕ) (es : List E) (rs : List (Receipt E)) → length ss ≡ length es
    → Rises seat b ss es b rs → Fits seat b ss es rs
fits seat b [] es [] level h = record { few = omega arith; all = λ _. refl }
fits seat b [] es (r ∷ rs) level h = let none = h.1.0 in cc
fits seat b (s ∷ ss) [] rs level h = cc
fits seat b (s ∷ ss) (e ∷ es) [] level h = passes_over seat b s e ss es [] (fits seat (b + 1) ss es [] (omega arith) tt) (tell s seat)
fits seat b (s ∷ ss) (e ∷ es) (r ∷ rs) level h =
    fits_first seat b s e ss es r rs (λ qs g. fits seat (b + 1) ss es qs (omega arith) g) h (cases_lt (b + 1) r.number)

-- the entries of a seat rise, and are as many as the seat has
pub record Whole {E : Type 0} (seat b : ℕ) (ss : List ℕ) (es : List E) (rs : List (Receipt E)) : Type 0 where
  pub rise : Rises seat b ss es b rs
  pub as_many : length rs ≡ seat_count seat ss

whole_own : {E : Type 0} (seat b s : ℕ) (e : E) (ss : List ℕ) (es : List E) (r : Receipt E) (rs : List (Receipt E))
    → s ≡ seat → numbered r ≡ record { number = b + 1; entry = e } → Whole seat (b + 1) ss es rs → Whole seat b (s ∷ ss) (e ∷ es) (r ∷ rs)
whole_own {E} seat b s e ss es r rs own is w =
    let c = count_own seat s ss own in
    let m = w.as_many in
    let first : r.number ≡ b + 1 = ap (λ (x : Numbered E). x.number) is in
    let same : r.entry ≡ e = ap (λ (x : Numbered E). x.entry) is in
    let none : r.number - (b + 1) ≡ 0 = omega arith in
    record {
      rise = (
        omega arith,
        (ap (λ k. slice_get (s ∷ ss) k) none ∙ ap Some own, ap (λ k. slice_get (e ∷ es) k) none ∙ ap Some (sym same)),
        before seat b s e ss es r.number rs (omega arith) (subst (λ (n : ℕ). Rises seat (b + 1) ss es n rs) (sym first) w.rise),
      );
      as_many = omega arith;
    }

whole_other : {E : Type 0} (seat b s : ℕ) (e : E) (ss : List ℕ) (es : List E) (rs : List (Receipt E))
    → s ≢ seat → Whole seat (b + 1) ss es rs → Whole seat b (s ∷ ss) (e ∷ es) rs
whole_other seat b s e ss es rs other w =
    let c = count_other seat s ss other in
    let m = w.as_many in
    record {
      rise = lower seat b (s ∷ ss) (e ∷ es) (b + 1) b rs (omega arith) (before seat b s e ss es (b + 1) rs (omega arith) w.rise);
      as_many = omega arith;
    }

whole_first : {E : Type 0} (seat b s : ℕ) (e : E) (ss : List ℕ) (es : List E) (rs : List (Receipt E))
    → ((qs : List (Receipt E)) → map numbered qs ≡ entries_of seat (b + 1 + 1) ss es → Whole seat (b + 1) ss es qs)
    → map numbered rs ≡ entries_of seat (b + 1) (s ∷ ss) (e ∷ es) → (s ≡ seat) ⊎ (s ≢ seat) → Whole seat b (s ∷ ss) (e ∷ es) rs
whole_first seat b s e ss es rs rest h (inr other) =
    whole_other seat b s e ss es rs other (rest rs (h ∙ entries_other seat (b + 1) s e ss es other))
whole_first seat b s e ss es [] rest h (inl own) = let all = h ∙ entries_own seat (b + 1) s e ss es own in cc
whole_first {E} seat b s e ss es (r ∷ rs) rest h (inl own) =
    let all = h ∙ entries_own seat (b + 1) s e ss es own in
    let head : Numbered E = record { number = b + 1; entry = e } in
    let is : numbered r ≡ head = cc in
    let others : map numbered rs ≡ entries_of seat (b + 1 + 1) ss es = cc in
    whole_own seat b s e ss es r rs own is (rest rs others)

pub whole : {E : Type 0} (seat b : ℕ) (ss : List ℕ) (es : List E) (rs : List (Receipt E)) → length ss ≡ length es
    → map numbered rs ≡ entries_of seat (b + 1) ss es → Whole seat b ss es rs
whole seat b [] es [] level h = record { rise = tt; as_many = refl }
whole seat b [] es (r ∷ rs) level h = cc
whole seat b (s ∷ ss) [] rs level h = cc
whole seat b (s ∷ ss) (e ∷ es) rs level h =
    whole_first seat b s e ss es rs (λ qs g. whole seat (b + 1) ss es qs (omega arith) g) h (tell s seat)

-- all receipts rise where those that are left do
pub record Left {E : Type 0} (seat : ℕ) (ss : List ℕ) (es : List E) (rs : List (Receipt E)) (i last : ℕ) : Type 0 where
  pub one : Rises seat 0 ss es 0 rs → Rises seat 0 ss es last (drop i rs)
  pub other : Rises seat 0 ss es last (drop i rs) → Rises seat 0 ss es 0 rs

drop_at : {A : Type 0} → (xs : List A) (i : ℕ) (x : A) → slice_get xs i ≡ Some x → drop i xs ≡ x ∷ drop (i + 1) xs
drop_at xs i x at =
    drop-cons xs i x (slice_get_within xs i x at) ∙ ap (λ y. y ∷ drop (suc i) xs) (get_or_from_slice_get xs i x x at) ∙ ap (λ k. x ∷ drop k xs) (sym (add-one i))

pub steps : {E : Type 0} (seat : ℕ) (ss : List ℕ) (es : List E) (rs : List (Receipt E)) (i last : ℕ) (r : Receipt E) → Left seat ss es rs i last
    → slice_get rs i ≡ Some r → last < r.number → IsOfSeat seat 0 ss es r → Left seat ss es rs (i + 1) r.number
steps {E} seat ss es rs i last r l at more of =
    let P : List (Receipt E) → Type 0 = λ xs. Rises seat 0 ss es last xs in
    record {
      one = λ all. (let h = subst P (drop_at rs i r at) (l.one all) in h.2);
      other = λ rest. l.other (subst P (sym (drop_at rs i r at)) (more, of, rest));
    }

pub misses : {E : Type 0} (seat : ℕ) (ss : List ℕ) (es : List E) (rs : List (Receipt E)) (i last : ℕ) (r : Receipt E) → Left seat ss es rs i last
    → slice_get rs i ≡ Some r → (last < r.number → IsOfSeat seat 0 ss es r → ⊥) → Rises seat 0 ss es 0 rs → ⊥
misses {E} seat ss es rs i last r l at differ all =
    let P : List (Receipt E) → Type 0 = λ xs. Rises seat 0 ss es last xs in
    let h = subst P (drop_at rs i r at) (l.one all) in
    differ h.0 h.1

pub ends : {E : Type 0} (seat : ℕ) (ss : List ℕ) (es : List E) (rs : List (Receipt E)) (i last : ℕ) → Left seat ss es rs i last → length rs ≤ i
    → Rises seat 0 ss es 0 rs
ends {E} seat ss es rs i last l over =
    let P : List (Receipt E) → Type 0 = λ xs. Rises seat 0 ss es last xs in
    l.other (subst P (sym (drop_all i rs over)) tt)
