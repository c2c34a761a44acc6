-- Whether more can be added, by rows and by names.
use Rattle.std.proofs.Common.{◌≡◌, ℕ, ◌+◌, ◌≤◌, Bool, true, false, cond, nat_eq, nat_le, List, [], ◌∷◌, refl, subst, arith}
use Rattle.std.specs.Cmp.Lexicographic.{pointwise, bytes_decides}
use Rattle.std.proofs.lemmas.Bool.{and_parts}
use Rattle.std.proofs.lemmas.Bool.Decides.{nat_tests}
use Rattle.quantity.specs.declared.rows.Row.{Row}
use Rattle.quantity.specs.Rows.{AreRows, amount}
use Rattle.quantity.proofs.Amounts.{amount-cons, part_of_own}
use Rattle.drf_shares.specs.Sums.{CanAdd, IsSum, first_amount, fits_all, greatest_sum}
use Rattle.drf_shares.proofs.Summing.{amount_few, first_is}

is_most : (n : ℕ) → nat_le n greatest_sum ≡ true → n ≤ greatest_sum
is_most n h = grind (arith, nat_tests)

most_is : (n : ℕ) → n ≤ greatest_sum → nat_le n greatest_sum ≡ true
most_is n h = grind (arith, nat_tests)

first_fits : (sum : List Row) (name : List ℕ) (rows : List Row) → amount name sum ≤ greatest_sum → fits_all sum rows ≡ true → amount name sum + first_amount name rows ≤ greatest_sum
first_fits sum name [] few fits = omega (arith, few)
first_fits sum name (r ∷ rows) few fits =
    let both = and_parts (nat_le (amount r.name sum + r.amount) greatest_sum) (fits_all sum rows) fits in
    by both.0 (first_fits sum name rows few both.1) (pointwise nat_eq r.name name) refl
  where
    by : nat_le (amount r.name sum + r.amount) greatest_sum ≡ true → amount name sum + first_amount name rows ≤ greatest_sum → (b : Bool) → pointwise nat_eq r.name name ≡ b → amount name sum + cond b r.amount (first_amount name rows) ≤ greatest_sum
    by here ih true e = subst (λ n. amount n sum + r.amount ≤ greatest_sum) ((bytes_decides r.name name).0 e) (is_most (amount r.name sum + r.amount) here)
    by here ih false e = ih

pub can_if_fits : (sum more : List Row) → IsSum sum → AreRows more → fits_all sum more ≡ true → CanAdd sum more
can_if_fits sum more is are fits name = omega (arith, first_fits sum name more (amount_few name sum is) fits, first_is name more are.ordered)

pub fits_if_can : (sum rows : List Row) → CanAdd sum rows → fits_all sum rows ≡ true
fits_if_can sum [] can = refl
fits_if_can sum (r ∷ rows) can =
    let here : amount r.name sum + r.amount ≤ greatest_sum = omega (arith, can r.name, amount-cons r.name r rows, part_of_own r) in
    rw (most_is (amount r.name sum + r.amount) here) (fits_if_can sum rows (λ name. omega (arith, can name, amount-cons name r rows)))
