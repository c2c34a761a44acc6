-- Sums with more of one name.
use Rattle.std.proofs.Common.{◌≡◌, ℕ, zero, suc, ◌+◌, ◌-◌, ◌<◌, ◌≤◌, Bool, true, false, cond, nat_eq, nat_lt, List, [], ◌∷◌, ◌++◌, length, take, drop, get_or, set, refl, sym, ap, ◌∙◌, subst, arith}
use Rattle.std.specs.List.{AllByRecursion}
use Rattle.std.specs.List.Sorted.{IsStrictlySortedBy}
use Rattle.std.specs.Cmp.Lexicographic.{pointwise, slice_cmp, bytes_decides}
use Rattle.std.specs.Ordering.{nat_cmp, match_ordering}
use Rattle.std.specs.declared.cmp.Ordering.{Ordering}
use Rattle.std.specs.declared.cmp.Ordering.TheVariants.{Less, Equal, Greater}
use Rattle.std.proofs.lemmas.Bool.{cond_both, ltb-true}
use Rattle.quantity.specs.declared.rows.Row.{Row}
use Rattle.quantity.specs.Rows.{amount, part_of, name_order, IsRow, row, left_of, rest_of}
use Rattle.quantity.proofs.Amounts.{amount-cons, amount_of_first, part_of_own}
use Rattle.quantity.proofs.Orders.{level_same}
use Rattle.quantity.proofs.Sums.{ordered_plus, sums_add_up}
use Rattle.quantity.proofs.Rests.{ordered_rest}
use Rattle.drf_shares.specs.Sums.{AddUp, CanAdd, greatest_sum, raised, plus_rows, first_amount, IsSum}

-- each row has some amount
abbrev pub ArePositive : List Row → Type 0
ArePositive rows = AllByRecursion (λ r. 0 < r.amount) rows

positive_raised : (name : List ℕ) (n : ℕ) (rows : List Row) → 0 < n → ArePositive rows → ArePositive (raised name n rows)
positive_raised name n [] pos each = (pos, tt)
positive_raised name n (r ∷ rows) pos each = by_order (slice_cmp nat_cmp name r.name) (positive_raised name n rows pos each.1)
  where
    by_order : (o : Ordering) → ArePositive (raised name n rows) → ArePositive (match_ordering o (row name n ∷ r ∷ rows) (row name (r.amount + n) ∷ rows) (r ∷ raised name n rows))
    by_order Less behind = (pos, each)
    by_order Equal behind = (omega (arith, each.0), each.1)
    by_order Greater behind = (each.0, behind)

positive_plus : (rows more : List Row) → ArePositive rows → ArePositive more → ArePositive (plus_rows rows more)
positive_plus rows [] each all = each
positive_plus rows (r ∷ more) each all = positive_plus (raised r.name r.amount rows) more (positive_raised r.name r.amount rows all.0 each) all.1

pub rows_positive : (rows : List Row) → AllByRecursion IsRow rows → ArePositive rows
rows_positive [] each = tt
rows_positive (r ∷ rows) each = (each.0.positive, rows_positive rows each.1)

-- no row has more than there is of its name
each_few : (rows : List Row) → AddUp rows → AllByRecursion (λ r. r.amount ≤ greatest_sum) rows
each_few [] up = tt
each_few (r ∷ rows) up = (omega (arith, up r.name, amount-cons r.name r rows, part_of_own r), each_few rows (λ name. omega (arith, up name, amount-cons name r rows)))

pub can_add_up : (rows more : List Row) → CanAdd rows more → AddUp (plus_rows rows more)
can_add_up rows more can name = omega (arith, can name, sums_add_up rows more name)

-- a sum and more rows are a sum
pub sum_is : (rows more : List Row) → IsSum rows → ArePositive more → CanAdd rows more → IsSum (plus_rows rows more)
sum_is rows more is all can = record {
  ordered = ordered_plus rows more is.ordered;
  positive = positive_plus rows more is.positive all;
  few = each_few (plus_rows rows more) (can_add_up rows more can);
}

pub no_sum : IsSum []
unfolding IsStrictlySortedBy
no_sum = record { ordered = tt; positive = tt; few = tt }

-- the row at a place has no more than there is of its name
pub amount_at : (rows : List Row) (i : ℕ) (r : Row) → i < length rows → r ≡ get_or rows i r → r.amount ≤ amount r.name rows
amount_at [] i r within is = absurd (omega arith)
amount_at (s ∷ rows) zero r within is = subst (λ (x : Row). x.amount ≤ amount x.name (s ∷ rows)) (sym is) (omega (arith, amount-cons s.name s rows, part_of_own s))
amount_at (s ∷ rows) (suc i) r within is = omega (arith, amount_at rows i r (omega arith) is, amount-cons r.name s rows)

-- nor has it with those before it
taken_at : (rows : List Row) (i : ℕ) (r : Row) → i < length rows → r ≡ get_or rows i r → amount r.name (take i rows) + r.amount ≤ amount r.name rows
taken_at [] i r within is = absurd (omega arith)
taken_at (s ∷ rows) zero r within is = subst (λ (x : Row). 0 + x.amount ≤ amount x.name (s ∷ rows)) (sym is) (omega (arith, amount-cons s.name s rows, part_of_own s))
taken_at (s ∷ rows) (suc i) r within is = omega (arith, taken_at rows i r (omega arith) is, amount-cons r.name s rows, amount-cons r.name s (take i rows))

-- so the next of the rows can be added to those so far
pub next_adds : (rows more : List Row) (i : ℕ) (r : Row) → i < length more → r ≡ get_or more i r → CanAdd rows more → amount r.name (plus_rows rows (take i more)) + r.amount ≤ greatest_sum
next_adds rows more i r within is can = omega (arith, can r.name, sums_add_up rows (take i more) r.name, taken_at more i r within is)

-- the first row of a name has all of it
pub first_is : (name : List ℕ) (rows : List Row) → IsStrictlySortedBy name_order rows → first_amount name rows ≡ amount name rows
unfolding IsStrictlySortedBy
first_is name [] ordered = refl
first_is name (r ∷ rows) ordered = by_name (pointwise nat_eq r.name name) refl (first_is name rows ordered.1)
  where
    by_name : (b : Bool) → pointwise nat_eq r.name name ≡ b → first_amount name rows ≡ amount name rows → cond b r.amount (first_amount name rows) ≡ amount name (r ∷ rows)
    by_name true e behind = subst (λ x. r.amount ≡ amount x (r ∷ rows)) ((bytes_decides r.name name).0 e) (sym (amount_of_first r rows ordered))
    by_name false e behind =
        let none : part_of name r ≡ 0 = rw e refl in
        omega (arith, behind, amount-cons name r rows, none)

-- an amount of a sum is at most the greatest
first_few : (name : List ℕ) (rows : List Row) → AllByRecursion (λ r. r.amount ≤ greatest_sum) rows → first_amount name rows ≤ greatest_sum
first_few name [] few = omega arith
first_few name (r ∷ rows) few = cond_both (pointwise nat_eq r.name name) r.amount (first_amount name rows) (λ n. n ≤ greatest_sum) (λ e. few.0) (λ e. first_few name rows few.1)

pub amount_few : (name : List ℕ) (rows : List Row) → IsSum rows → amount name rows ≤ greatest_sum
amount_few name rows is = subst (λ n. n ≤ greatest_sum) (first_is name rows is.ordered) (first_few name rows is.few)

-- where the name has a row, that row gets more
pub more_here : (name : List ℕ) (n : ℕ) (rows : List Row) (i : ℕ) (r : Row) → i < length rows → r ≡ get_or rows i r → slice_cmp nat_cmp name r.name ≡ Equal
    → set rows i (row r.name ((r.amount + n))) ≡ take i rows ++ raised name n (drop i rows)
more_here name n [] i r within is e = absurd (omega arith)
more_here name n (s ∷ rows) zero r within is e =
    let here : slice_cmp nat_cmp name s.name ≡ Equal = ap (λ (x : Row). slice_cmp nat_cmp name x.name) (sym is) ∙ e in
    rw here (ap (λ (x : Row). row x.name ((x.amount + n)) ∷ rows) is ∙ ap (λ m. row m ((s.amount + n)) ∷ rows) (sym (level_same name s.name here)))
more_here name n (s ∷ rows) (suc i) r within is e = ap (λ xs. s ∷ xs) (more_here name n rows i r (omega arith) is e)

positive_rest : (rows less : List Row) → AllByRecursion (λ r. 0 < r.amount) (rest_of rows less)
positive_rest [] less = tt
positive_rest (r ∷ rows) less =
    cond_both (nat_lt 0 (r.amount - amount r.name less)) (left_of less r ∷ rest_of rows less) (rest_of rows less) (AllByRecursion (λ s. 0 < s.amount))
    (λ e. (ltb-true 0 _ e, positive_rest rows less)) (λ e. positive_rest rows less)

few_rest : (rows less : List Row) → AllByRecursion (λ r. r.amount ≤ greatest_sum) rows → AllByRecursion (λ r. r.amount ≤ greatest_sum) (rest_of rows less)
few_rest [] less few = tt
few_rest (r ∷ rows) less few =
    cond_both (nat_lt 0 (r.amount - amount r.name less)) (left_of less r ∷ rest_of rows less) (rest_of rows less) (AllByRecursion (λ s. s.amount ≤ greatest_sum))
    (λ e. (omega (arith, few.0), few_rest rows less few.1)) (λ e. few_rest rows less few.1)

-- what is left of a sum is a sum
pub rest_is_sum : (rows less : List Row) → IsSum rows → IsSum (rest_of rows less)
rest_is_sum rows less is = record { ordered = ordered_rest rows less is.ordered; positive = positive_rest rows less; few = few_rest rows less is.few }
