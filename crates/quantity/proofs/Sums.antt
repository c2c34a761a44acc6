-- The rows of a sum.
use Rattle.std.proofs.Common.{◌≡◌, ℕ, ◌+◌, ◌<◌, Bool, true, false, cond, nat_eq, nat_lt, List, [], ◌∷◌, length, refl, sym, ap, subst, arith}
use Rattle.std.specs.Prelude.{IsTrue, OnOk, OnErr, Result, Ok, Err, is_ok}
use Rattle.std.specs.List.{AllByRecursion, list_any}
use Rattle.std.specs.List.Sorted.{IsStrictlySortedBy}
use Rattle.std.specs.Cmp.Lexicographic.{pointwise, slice_cmp}
use Rattle.std.specs.Ordering.{nat_cmp, match_ordering}
use Rattle.std.specs.declared.cmp.Ordering.{Ordering}
use Rattle.std.specs.declared.cmp.Ordering.TheVariants.{Less, Equal, Greater}
use Rattle.std.proofs.lemmas.Bool.{false≢true, or_parts, ltb-false}
use Rattle.quantity.specs.declared.fault.QuantityFault.{QuantityFault}
use Rattle.quantity.specs.declared.fault.QuantityFault.TheVariants.{TooLarge, TooManyNames}
use Rattle.quantity.specs.Names.{is_resource_name}
use Rattle.quantity.specs.Rows.{Row, part_of, amount, name_order, IsRow, AreRows, greatest_amount, names_limit, row, raised, plus_rows, within_limits}
use Rattle.quantity.specs.Laws.{SumsAddUp}
use Rattle.quantity.proofs.Orders.{below_back, level_same}
use Rattle.quantity.proofs.Amounts.{amount-cons, all_above}

join_parts : (b : Bool) (m n : ℕ) → cond b (m + n) 0 ≡ cond b m 0 + cond b n 0
join_parts true m n = refl
join_parts false m n = omega arith

pub amount-raised : (q name : List ℕ) (n : ℕ) (rows : List Row) → amount q (raised name n rows) ≡ amount q rows + part_of q (row name n)
amount-raised q name n [] = omega (arith, amount-cons q (row name n) [])
amount-raised q name n (r ∷ rows) = by_order (slice_cmp nat_cmp name r.name) refl (amount-raised q name n rows)
  where
    by_order : (o : Ordering) → slice_cmp nat_cmp name r.name ≡ o → amount q (raised name n rows) ≡ amount q rows + part_of q (row name n)
        → amount q (match_ordering o (row name n ∷ r ∷ rows) (row name (r.amount + n) ∷ rows) (r ∷ raised name n rows)) ≡ amount q (r ∷ rows) + part_of q (row name n)
    by_order Less e behind = omega (arith, amount-cons q (row name n) (r ∷ rows))
    by_order Equal e behind =
        let here : part_of q r ≡ part_of q (row name r.amount) = ap (λ x. part_of q (row x r.amount)) (sym (level_same name r.name e)) in
        omega (arith, amount-cons q (row name (r.amount + n)) rows, amount-cons q r rows, here, join_parts (pointwise nat_eq name q) r.amount n)
    by_order Greater e behind = omega (arith, amount-cons q r (raised name n rows), amount-cons q r rows, behind)

pub sums_add_up : SumsAddUp
sums_add_up rows [] q = omega arith
sums_add_up rows (o ∷ others) q =
    omega (arith, sums_add_up (raised o.name o.amount rows) others q, amount-raised q o.name o.amount rows, amount-cons q o others)

-- rows that stand behind a row still do when a name behind it is raised
above_raised : (s : Row) (name : List ℕ) (n : ℕ) (rows : List Row) → slice_cmp nat_cmp s.name name ≡ Less → AllByRecursion (λ r. name_order s r ≡ Less) rows
    → AllByRecursion (λ r. name_order s r ≡ Less) (raised name n rows)
above_raised s name n [] below above = (below, tt)
above_raised s name n (r ∷ rows) below above = by_order (slice_cmp nat_cmp name r.name) (above_raised s name n rows below above.1)
  where
    by_order : (o : Ordering) → AllByRecursion (λ r. name_order s r ≡ Less) (raised name n rows)
        → AllByRecursion (λ r. name_order s r ≡ Less) (match_ordering o (row name n ∷ r ∷ rows) (row name (r.amount + n) ∷ rows) (r ∷ raised name n rows))
    by_order Less behind = (below, above)
    by_order Equal behind = (below, above.1)
    by_order Greater behind = (above.0, behind)

pub ordered_raised : (name : List ℕ) (n : ℕ) (rows : List Row) → IsStrictlySortedBy name_order rows → IsStrictlySortedBy name_order (raised name n rows)
unfolding IsStrictlySortedBy
ordered_raised name n [] ordered = (tt, tt)
ordered_raised name n (r ∷ rows) ordered = by_order (slice_cmp nat_cmp name r.name) refl (ordered_raised name n rows ordered.1)
  where
    by_order : (o : Ordering) → slice_cmp nat_cmp name r.name ≡ o → IsStrictlySortedBy name_order (raised name n rows)
        → IsStrictlySortedBy name_order (match_ordering o (row name n ∷ r ∷ rows) (row name (r.amount + n) ∷ rows) (r ∷ raised name n rows))
    by_order Less e behind = ((e, all_above name r rows e ordered.0), ordered)
    by_order Equal e behind =
        (subst (λ x. AllByRecursion (λ s. slice_cmp nat_cmp x s.name ≡ Less) rows) (sym (level_same name r.name e)) ordered.0, ordered.1)
    by_order Greater e behind = (above_raised r name n rows (below_back name r.name e) ordered.0, behind)

-- a row that counts: of a name, and over 0
pub record Counts (r : Row) : Type 0 where
  pub named : IsTrue (is_resource_name r.name)
  pub positive : 0 < r.amount

pub rows_count : (rows : List Row) → AllByRecursion IsRow rows → AllByRecursion Counts rows
rows_count [] each = tt
rows_count (r ∷ rows) each = (record { named = each.0.named; positive = each.0.positive }, rows_count rows each.1)

pub counts_raised : (name : List ℕ) (n : ℕ) (rows : List Row) → IsTrue (is_resource_name name) → 0 < n → AllByRecursion Counts rows → AllByRecursion Counts (raised name n rows)
counts_raised name n [] named positive each = (record { named = named; positive = positive }, tt)
counts_raised name n (r ∷ rows) named positive each = by_order (slice_cmp nat_cmp name r.name) (counts_raised name n rows named positive each.1)
  where
    by_order : (o : Ordering) → AllByRecursion Counts (raised name n rows)
        → AllByRecursion Counts (match_ordering o (row name n ∷ r ∷ rows) (row name (r.amount + n) ∷ rows) (r ∷ raised name n rows))
    by_order Less behind = (record { named = named; positive = positive }, each)
    by_order Equal behind = (record { named = named; positive = omega arith }, each.1)
    by_order Greater behind = (each.0, behind)

pub ordered_plus : (rows others : List Row) → IsStrictlySortedBy name_order rows → IsStrictlySortedBy name_order (plus_rows rows others)
ordered_plus rows [] ordered = ordered
ordered_plus rows (o ∷ others) ordered = ordered_plus (raised o.name o.amount rows) others (ordered_raised o.name o.amount rows ordered)

pub counts_plus : (rows others : List Row) → AllByRecursion Counts rows → AllByRecursion Counts others → AllByRecursion Counts (plus_rows rows others)
counts_plus rows [] each others_each = each
counts_plus rows (o ∷ others) each others_each =
    counts_plus (raised o.name o.amount rows) others (counts_raised o.name o.amount rows others_each.0.named others_each.0.positive each) others_each.1

at_most_limit : (rows : List Row) → list_any (λ r. nat_lt greatest_amount r.amount) rows ≡ false → AllByRecursion Counts rows → AllByRecursion IsRow rows
at_most_limit [] small each = tt
at_most_limit (r ∷ rows) small each =
    let parts = or_parts _ _ small in
    (record { named = each.0.named; positive = each.0.positive; at_most = ltb-false _ _ parts.0 }, at_most_limit rows parts.1 each.1)

-- rows that keep within the limits are rows of Resources
pub limits_kept : (rows : List Row) → IsStrictlySortedBy name_order rows → AllByRecursion Counts rows → (out : List Row) → within_limits rows ≡ Ok out → AreRows out
limits_kept rows ordered each out h = by_tests (list_any (λ r. nat_lt greatest_amount r.amount) rows) (nat_lt names_limit (length rows)) refl refl h
  where
    by_tests : (large many : Bool) → list_any (λ r. nat_lt greatest_amount r.amount) rows ≡ large → nat_lt names_limit (length rows) ≡ many
        → cond large (Err TooLarge) (cond many (Err TooManyNames) (Ok rows)) ≡ Ok out → AreRows out
    by_tests true many a b e = absurd (false≢true (ap is_ok e))
    by_tests false true a b e = absurd (false≢true (ap is_ok e))
    by_tests false false a b e =
        let same : rows ≡ out = cc in
        subst AreRows same (record { ordered = ordered; each = at_most_limit rows a each; few = ltb-false _ _ b })

-- rows of Resources after a raise that went well or was refused
pub raised_are : {T : Type 0} (result : Result T QuantityFault) (name : List ℕ) (n : ℕ) (rows after : List Row) → AreRows rows → IsTrue (is_resource_name name) → 0 < n
    → OnOk result (within_limits (raised name n rows) ≡ Ok after) → OnErr result (after ≡ rows) → AreRows after
raised_are (Ok x) name n rows after are named positive ok err =
    limits_kept (raised name n rows) (ordered_raised name n rows are.ordered) (counts_raised name n rows named positive (rows_count rows are.each)) after ok
raised_are (Err e) name n rows after are named positive ok err = subst AreRows (sym err) are
