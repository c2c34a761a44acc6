-- What is left of rows.
use Rattle.std.proofs.Common.{◌≡◌, ℕ, ◌+◌, ◌-◌, ◌<◌, ◌≤◌, Bool, true, false, cond, nat_eq, nat_lt, List, [], ◌∷◌, ◌++◌, length, refl, sym, ap, ◌∙◌, subst, arith}
use Rattle.std.specs.List.{AllByRecursion}
use Rattle.std.specs.List.Sorted.{IsStrictlySortedBy}
use Rattle.std.specs.Cmp.Lexicographic.{pointwise, bytes_decides}
use Rattle.std.specs.declared.cmp.Ordering.TheVariants.{Less}
use Rattle.std.proofs.lemmas.Bool.{cond_both, cond-false, ltb-true, ltb-false, lt-ltb, le-ltb}
use Rattle.quantity.specs.Rows.{Row, part_of, amount, name_order, IsRow, AreRows, left_of, rest_of, row}
use Rattle.quantity.specs.Laws.{RestsAreLess, RestsAreRows, RestsJoin}
use Rattle.quantity.proofs.Amounts.{amount-cons, amount-append, amount-above}

-- a row counts the same whether or not it is dropped where it has nothing
amount-kept : (name : List ℕ) (r : Row) (rows : List Row) → amount name (cond (nat_lt 0 r.amount) (r ∷ rows) rows) ≡ part_of name r + amount name rows
amount-kept name r rows =
    cond_both (nat_lt 0 r.amount) (r ∷ rows) rows (λ xs. amount name xs ≡ part_of name r + amount name rows) (λ e. amount-cons name r rows)
    (λ e. let none = nothing (pointwise nat_eq r.name name) (ltb-false 0 r.amount e) in omega (arith, none))
  where
    nothing : (b : Bool) → r.amount ≤ 0 → cond b r.amount 0 ≡ 0
    nothing true h = omega arith
    nothing false h = refl

pub amount-rest : (total taken : List Row) → IsStrictlySortedBy name_order total → (name : List ℕ) → amount name (rest_of total taken) ≡ amount name total - amount name taken
unfolding IsStrictlySortedBy
amount-rest [] taken ordered name = omega arith
amount-rest (r ∷ total) taken ordered name = at_name (pointwise nat_eq r.name name) refl (amount-rest total taken ordered.1 name)
  where
    here : amount name (rest_of (r ∷ total) taken) ≡ part_of name (left_of taken r) + amount name (rest_of total taken)
    here = amount-kept name (left_of taken r) (rest_of total taken)

    at_name : (b : Bool) → pointwise nat_eq r.name name ≡ b → amount name (rest_of total taken) ≡ amount name total - amount name taken
        → amount name (rest_of (r ∷ total) taken) ≡ amount name (r ∷ total) - amount name taken
    at_name true e behind =
        let own : part_of name (left_of taken r) ≡ r.amount - amount r.name taken = rw e refl in
        let all : part_of name r ≡ r.amount = rw e refl in
        let same : r.name ≡ name = (bytes_decides r.name name).0 e in
        let none : amount name total ≡ 0 = subst (λ n. amount n total ≡ 0) same (amount-above r.name total ordered.0) in
        omega (arith, here, own, all, none, behind, amount-cons name r total, ap (λ n. amount n taken) same)
    at_name false e behind =
        let own : part_of name (left_of taken r) ≡ 0 = rw e refl in
        let all : part_of name r ≡ 0 = rw e refl in
        omega (arith, here, own, all, behind, amount-cons name r total)

pub rests_are_less : RestsAreLess
rests_are_less total taken are name = amount-rest total taken are.ordered name

-- what holds of a row and of those behind it holds of what is left of them
all_rest : (P : Row → Type 0) (total taken : List Row) → ((r : Row) → P r → 0 < r.amount - amount r.name taken → P (left_of taken r)) → AllByRecursion P total → AllByRecursion P (rest_of total taken)
all_rest P [] taken keeps h = tt
all_rest P (r ∷ total) taken keeps h =
    cond_both (nat_lt 0 (r.amount - amount r.name taken)) (left_of taken r ∷ rest_of total taken) (rest_of total taken) (AllByRecursion P)
    (λ e. (keeps r h.0 (ltb-true 0 _ e), all_rest P total taken keeps h.1))
    (λ e. all_rest P total taken keeps h.1)

pub ordered_rest : (total taken : List Row) → IsStrictlySortedBy name_order total → IsStrictlySortedBy name_order (rest_of total taken)
unfolding IsStrictlySortedBy
ordered_rest [] taken ordered = tt
ordered_rest (r ∷ total) taken ordered =
    cond_both (nat_lt 0 (r.amount - amount r.name taken)) (left_of taken r ∷ rest_of total taken) (rest_of total taken) (IsStrictlySortedBy name_order)
    (λ e. (all_rest (λ s. name_order r s ≡ Less) total taken (λ s below left. below) ordered.0, ordered_rest total taken ordered.1))
    (λ e. ordered_rest total taken ordered.1)

length_rest : (total taken : List Row) → length (rest_of total taken) ≤ length total
length_rest [] taken = omega arith
length_rest (r ∷ total) taken =
    cond_both (nat_lt 0 (r.amount - amount r.name taken)) (left_of taken r ∷ rest_of total taken) (rest_of total taken) (λ xs. length xs ≤ length (r ∷ total))
    (λ e. omega (arith, length_rest total taken)) (λ e. omega (arith, length_rest total taken))

left_is_row : (taken : List Row) (r : Row) → IsRow r → 0 < r.amount - amount r.name taken → IsRow (left_of taken r)
left_is_row taken r is left = record { named = is.named; positive = left; at_most = omega (arith, is.at_most) }

pub rests_are_rows : RestsAreRows
rests_are_rows total taken are =
    record {
      ordered = ordered_rest total taken are.ordered;
      each = all_rest IsRow total taken (left_is_row taken) are.each;
      few = omega (arith, length_rest total taken, are.few);
    }

-- what is left of one row, twice
left_twice : (first second : List Row) (r : Row) → left_of second (left_of first r) ≡ left_of (first ++ second) r
left_twice first second r = ap (row r.name) (omega (arith, amount-append r.name first second))

pub rests_join : RestsJoin
rests_join [] first second = refl
rests_join (r ∷ total) first second = by_left (nat_lt 0 (r.amount - amount r.name first)) refl (rests_join total first second)
  where
    both : List Row
    both = first ++ second

    by_left : (some : Bool) → nat_lt 0 (r.amount - amount r.name first) ≡ some → rest_of (rest_of total first) second ≡ rest_of total both
        → rest_of (cond some (left_of first r ∷ rest_of total first) (rest_of total first)) second ≡ rest_of (r ∷ total) both
    by_left true e behind =
        ap (λ x. cond (nat_lt 0 x.amount) (x ∷ rest_of (rest_of total first) second) (rest_of (rest_of total first) second)) (left_twice first second r)
        ∙ ap (λ xs. cond (nat_lt 0 (r.amount - amount r.name both)) (left_of both r ∷ xs) xs) behind
    by_left false e behind =
        let none : nat_lt 0 (r.amount - amount r.name both) ≡ false = le-ltb 0 _ (omega (arith, ltb-false 0 _ e, amount-append r.name first second)) in
        behind ∙ sym (cond-false (nat_lt 0 (r.amount - amount r.name both)) (left_of both r ∷ rest_of total both) (rest_of total both) none)

-- where nothing is taken all is left
pub rest_whole : (total : List Row) → AllByRecursion IsRow total → rest_of total [] ≡ total
rest_whole [] each = refl
rest_whole (r ∷ total) each =
    let whole : left_of [] r ≡ r = ap (row r.name) (omega arith) in
    ap (λ x. cond (nat_lt 0 x.amount) (x ∷ rest_of total []) (rest_of total [])) whole ∙ rw (lt-ltb 0 r.amount each.0.positive) (ap (λ xs. r ∷ xs) (rest_whole total each.1))

pub no_rows : AreRows []
unfolding IsStrictlySortedBy
no_rows = record { ordered = tt; each = tt; few = omega arith }
