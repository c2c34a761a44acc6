-- What an amount that is added comes to, by the sums of names.
use Rattle.std.proofs.Common.{◌≡◌, ℕ, ◌+◌, ◌<◌, ◌≤◌, Bool, true, false, cond, nat_lt, nat_eq, List, [], ◌∷◌, length, Ok, Err, refl, sym, ap, ◌∙◌, subst, arith}
use Rattle.std.specs.Prelude.{IsTrue, not, ◌==◌}
use Rattle.std.specs.List.{AllByRecursion, list_any}
use Rattle.std.specs.List.Sorted.{IsStrictlySortedBy}
use Rattle.std.specs.Cmp.Lexicographic.{pointwise, slice_cmp, bytes_decides}
use Rattle.std.specs.Ordering.{nat_cmp}
use Rattle.std.specs.declared.cmp.Ordering.{Ordering}
use Rattle.std.specs.declared.cmp.Ordering.TheVariants.{Less, Equal, Greater}
use Rattle.std.proofs.lemmas.Bool.{cond-false, le-ltb, false≢true}
use Rattle.std.proofs.lemmas.Bool.Decides.{nat_tests}
use Rattle.quantity.specs.declared.fault.QuantityFault.TheVariants.{TooLarge, TooManyNames, BadName}
use Rattle.quantity.specs.declared.rows.Row.{Row}
use Rattle.quantity.specs.Laws.{AtLeast}
use Rattle.quantity.specs.Names.{is_resource_name}
use Rattle.quantity.specs.Rows.{part_of, amount, name_order, IsRow, AreRows, greatest_amount, names_limit, row, raised, within_limits, added}
use Rattle.quantity.proofs.Orders.{below_back, level_same}
use Rattle.quantity.proofs.Amounts.{amount-cons, amount-above, part_of_own}
use Rattle.quantity.proofs.Adds.{amount_behind, amount_before, amount_here, large_raised}
use Rattle.quantity.proofs.Sums.{amount-raised, ordered_raised, Counts, rows_count, counts_raised, limits_kept}

-- ---- rows that are at least others

abbrev NotNamed : List ℕ → Row → Type 0
NotNamed q r = pointwise nat_eq r.name q ≡ false

no_part : (q : List ℕ) (r : Row) → NotNamed q r → part_of q r ≡ 0
no_part q r is = cond-false _ _ _ is

named_or_not : {G : Type 0} (q : List ℕ) (r : Row) → (q ≡ r.name → G) → (NotNamed q r → G) → G
named_or_not {G} q r same other = by_test (pointwise nat_eq r.name q) refl
  where
    by_test : (t : Bool) → pointwise nat_eq r.name q ≡ t → G
    by_test true is = same (sym ((bytes_decides r.name q).0 is))
    by_test false is = other is

behind_first : (r o : Row) (rows others : List Row) → r.name ≡ o.name → IsStrictlySortedBy name_order (r ∷ rows) → AtLeast (o ∷ others) (r ∷ rows) → AtLeast others rows
unfolding IsStrictlySortedBy
behind_first r o rows others same ordered least q = named_or_not q r
    (λ here. omega (arith, amount-above q rows (subst (λ (x : List ℕ). AllByRecursion (λ s. slice_cmp nat_cmp x s.name ≡ Less) rows) (sym here) ordered.0)))
    (λ none.
    let other : part_of q o ≡ 0 = no_part q o (ap (λ (x : List ℕ). pointwise nat_eq x q) (sym same) ∙ none) in
    omega (arith, least q, amount-cons q r rows, amount-cons q o others, no_part q r none, other))

past_first : (r o : Row) (rows others : List Row) → slice_cmp nat_cmp r.name o.name ≡ Greater → IsStrictlySortedBy name_order (r ∷ rows) → AtLeast (o ∷ others) (r ∷ rows) → AtLeast others (r ∷ rows)
past_first r o rows others above ordered least q = named_or_not q o
    (λ here. omega (arith, ap (λ x. amount x (r ∷ rows)) here ∙ amount_before o.name r rows ordered (below_back r.name o.name above)))
    (λ none. omega (arith, least q, amount-cons q o others, no_part q o none))

-- rows in order that are at least others have as many names
pub as_many : (rows others : List Row) → IsStrictlySortedBy name_order rows → IsStrictlySortedBy name_order others → AllByRecursion Counts rows → AtLeast others rows
    → length rows ≤ length others
unfolding IsStrictlySortedBy
as_many [] others ordered others_ordered each least = omega arith
as_many (r ∷ rows) [] ordered others_ordered each least = absurd (omega (arith, least r.name, amount-cons r.name r rows, part_of_own r, each.0.positive))
as_many (r ∷ rows) (o ∷ others) ordered others_ordered each least =
    by_order (slice_cmp nat_cmp r.name o.name) refl
    (as_many rows others ordered.1 others_ordered.1 each.1) (as_many (r ∷ rows) others ordered others_ordered.1 each)
  where
    by_order : (c : Ordering) → slice_cmp nat_cmp r.name o.name ≡ c → (AtLeast others rows → length rows ≤ length others) → (AtLeast others (r ∷ rows) → length (r ∷ rows) ≤ length others)
        → length (r ∷ rows) ≤ length (o ∷ others)
    by_order Less is both one =
        absurd (omega (arith, least r.name, amount_before r.name o others others_ordered is, amount-cons r.name r rows, part_of_own r, each.0.positive))
    by_order Equal is both one = omega (arith, both (behind_first r o rows others (level_same r.name o.name is) ordered least))
    by_order Greater is both one = omega (arith, one (past_first r o rows others is ordered least))

-- rows of resources have at most so much of each name
pub amount_small : (q : List ℕ) (rows : List Row) → IsStrictlySortedBy name_order rows → AllByRecursion IsRow rows → amount q rows ≤ greatest_amount
unfolding IsStrictlySortedBy
amount_small q [] ordered each = omega arith
amount_small q (r ∷ rows) ordered each = by_order (slice_cmp nat_cmp q r.name) refl (amount_small q rows ordered.1 each.1)
  where
    by_order : (c : Ordering) → slice_cmp nat_cmp q r.name ≡ c → amount q rows ≤ greatest_amount → amount q (r ∷ rows) ≤ greatest_amount
    by_order Less is behind = omega (arith, amount_before q r rows ordered is)
    by_order Equal is behind = omega (arith, amount_here q r rows ordered is, each.0.at_most)
    by_order Greater is behind = omega (arith, amount_behind q r rows is, behind)

-- ---- an amount that is added

limits_same : (rows out : List Row) → within_limits rows ≡ Ok out → rows ≡ out
limits_same rows out is = by_tests (list_any (λ r. nat_lt greatest_amount r.amount) rows) (nat_lt names_limit (length rows)) is
  where
    by_tests : (large many : Bool) → cond large (Err TooLarge) (cond many (Err TooManyNames) (Ok rows)) ≡ Ok out → rows ≡ out
    by_tests true many e = absurd cc
    by_tests false true e = absurd cc
    by_tests false false e = cc

pub record AreRaised (rows : List Row) (name : List ℕ) (n : ℕ) (out : List Row) : Type 0 where
  pub are : AreRows out
  pub sum : (q : List ℕ) → amount q out ≡ amount q rows + part_of q (row name n)

zero_row : (q name : List ℕ) (n : ℕ) → n ≡ 0 → part_of q (row name n) ≡ 0
zero_row q name n none = by_test (pointwise nat_eq name q)
  where
    by_test : (t : Bool) → cond t n 0 ≡ 0
    by_test true = none
    by_test false = refl

pub added_are : (name : List ℕ) (n : ℕ) (rows out : List Row) → AreRows rows → IsTrue (is_resource_name name) → added name n rows ≡ Ok out → AreRaised rows name n out
added_are name n rows out are named is = by_tests (is_resource_name name) (n == 0) refl refl is
  where
    by_tests : (good none : Bool) → is_resource_name name ≡ good → n == 0 ≡ none
        → cond (not good) (Err BadName) (cond none (Ok rows) (within_limits (raised name n rows))) ≡ Ok out → AreRaised rows name n out
    by_tests false none a b e = absurd (false≢true (sym a ∙ named))
    by_tests true true a b e =
        let same : rows ≡ out = cc in
        let zero : n ≡ 0 = grind (arith, nat_tests) in
        record { are = subst AreRows same are; sum = λ q. omega (arith, ap (amount q) same, zero_row q name n zero) }
    by_tests true false a b e =
        let some : 0 < n = grind (arith, nat_tests) in
        record {
          are = limits_kept (raised name n rows) (ordered_raised name n rows are.ordered) (counts_raised name n rows named some (rows_count rows are.each)) out e;
          sum = λ q. ap (amount q) (sym (limits_same (raised name n rows) out e)) ∙ amount-raised q name n rows;
        }

pub added_fit : (name : List ℕ) (n : ℕ) (rows others : List Row) → AreRows rows → IsTrue (is_resource_name name) → AreRows others
    → ((q : List ℕ) → amount q rows + part_of q (row name n) ≤ amount q others) → (out : List Row) × (added name n rows ≡ Ok out)
added_fit name n rows others are named others_are least = by_tests (is_resource_name name) (n == 0) refl refl
  where
    large : amount name rows + n ≤ greatest_amount
    large = omega (arith, least name, part_of_own (row name n), amount_small name others others_are.ordered others_are.each)

    many : 0 < n → length (raised name n rows) ≤ names_limit
    many some = omega (
      arith,
      others_are.few,
      as_many (raised name n rows) others (ordered_raised name n rows are.ordered) others_are.ordered (counts_raised name n rows named some (rows_count rows are.each))
          (λ q. omega (arith, amount-raised q name n rows, least q)),
    )

    by_tests : (good none : Bool) → is_resource_name name ≡ good → n == 0 ≡ none
        → (out : List Row) × (cond (not good) (Err BadName) (cond none (Ok rows) (within_limits (raised name n rows))) ≡ Ok out)
    by_tests false none a b = absurd (false≢true (sym a ∙ named))
    by_tests true true a b = (rows, refl)
    by_tests true false a b =
        let some : 0 < n = grind (arith, nat_tests) in (
          raised name n rows,
          rw (large_raised name n rows are.ordered are.each, le-ltb greatest_amount (amount name rows + n) large, le-ltb names_limit (length (raised name n rows)) (many some)) refl,
        )
