-- Names that a sum has.
use Rattle.std.proofs.Common.{◌≡◌, ℕ, zero, suc, ◌+◌, ◌<◌, true, false, nat_eq, List, [], ◌∷◌, ◌++◌, length, take, drop, get_or, refl, sym, ap, ◌∙◌, subst, arith}
use Rattle.std.specs.List.{AllByRecursion}
use Rattle.std.specs.List.Sorted.{IsStrictlySortedBy}
use Rattle.std.specs.Cmp.Lexicographic.{pointwise, slice_cmp, bytes_decides, nat_list_eq_equiv}
use Rattle.std.specs.Ordering.{nat_cmp, match_ordering}
use Rattle.std.specs.declared.cmp.Ordering.{Ordering}
use Rattle.std.specs.declared.cmp.Ordering.TheVariants.{Less, Equal, Greater}
use Rattle.std.proofs.lemmas.Bool.{and_parts, false≢true, ltb-true}
use Rattle.quantity.specs.declared.rows.Row.{Row}
use Rattle.quantity.specs.Rows.{amount, part_of, name_order, row}
use Rattle.quantity.proofs.Amounts.{amount-cons, amount-above, all_above}
use Rattle.quantity.proofs.Orders.{below_back, below_other, level_equal, level_itself, level_same}
use Rattle.drf_shares.specs.Sums.{has_names_of, has_some, is_reached, raised, IsSum}

-- a name of which there is some is reached
reached : (name : List ℕ) (rows : List Row) → IsStrictlySortedBy name_order rows → 0 < amount name rows → is_reached name rows ≡ true
unfolding IsStrictlySortedBy
reached name [] ordered some = absurd (omega (arith, some))
reached name (r ∷ rows) ordered some = by_order (slice_cmp nat_cmp name r.name) refl (λ h. reached name rows ordered.1 h)
  where
    by_order : (o : Ordering) → slice_cmp nat_cmp name r.name ≡ o → (0 < amount name rows → is_reached name rows ≡ true) → match_ordering o false true (is_reached name rows) ≡ true
    by_order Less e behind =
        let none : amount name (r ∷ rows) ≡ 0 = amount-above name (r ∷ rows) (e, all_above name r rows e ordered.0) in
        absurd (omega (arith, some, none))
    by_order Equal e behind = refl
    by_order Greater e behind =
        let none : part_of name r ≡ 0 = rw (below_other r.name name (below_back name r.name e)) refl in
        behind (omega (arith, some, amount-cons name r rows, none))

pub each_reached : (rows more : List Row) → IsSum rows → has_names_of rows more ≡ true → AllByRecursion (λ r. is_reached r.name rows ≡ true) more
each_reached rows [] is all = tt
each_reached rows (r ∷ more) is all =
    let both = and_parts (has_some rows r.name) (has_names_of rows more) all in
    (reached r.name rows is.ordered (ltb-true 0 (amount r.name rows) both.0), each_reached rows more is both.1)

-- it is reached still when another that is reached gets more
still_reached : (other name : List ℕ) (n : ℕ) (rows : List Row) → is_reached name rows ≡ true → is_reached other rows ≡ true → is_reached other (raised name n rows) ≡ true
still_reached other name n [] at its = absurd (false≢true at)
still_reached other name n (r ∷ rows) at its = by_order (slice_cmp nat_cmp name r.name) refl at (λ a i. still_reached other name n rows a i)
  where
    behind_it : (o : Ordering) → match_ordering o false true (is_reached other rows) ≡ true → is_reached name rows ≡ true → (is_reached name rows ≡ true → is_reached other rows ≡ true → is_reached other (raised name n rows) ≡ true)
        → match_ordering o false true (is_reached other (raised name n rows)) ≡ true
    behind_it Less i a ih = i
    behind_it Equal i a ih = refl
    behind_it Greater i a ih = ih a i

    by_order : (o : Ordering) → slice_cmp nat_cmp name r.name ≡ o → match_ordering o false true (is_reached name rows) ≡ true → (is_reached name rows ≡ true → is_reached other rows ≡ true → is_reached other (raised name n rows) ≡ true)
        → is_reached other (match_ordering o (row name n ∷ r ∷ rows) (row name ((r.amount + n)) ∷ rows) (r ∷ raised name n rows)) ≡ true
    by_order Less e a ih = absurd (false≢true a)
    by_order Equal e a ih = subst (λ x. match_ordering (slice_cmp nat_cmp other x) false true (is_reached other rows) ≡ true) (sym (level_same name r.name e)) its
    by_order Greater e a ih = behind_it (slice_cmp nat_cmp other r.name) its a ih

pub all_still_reached : (name : List ℕ) (n : ℕ) (rows more : List Row) → is_reached name rows ≡ true → AllByRecursion (λ r. is_reached r.name rows ≡ true) more → AllByRecursion (λ r. is_reached r.name (raised name n rows) ≡ true) more
all_still_reached name n rows [] at all = tt
all_still_reached name n rows (r ∷ more) at all = (still_reached r.name name n rows at all.0, all_still_reached name n rows more at all.1)

-- the row of another name is passed over
pub passed : (name : List ℕ) (r : Row) (rows : List Row) → is_reached name (r ∷ rows) ≡ true → pointwise nat_eq r.name name ≡ false → slice_cmp nat_cmp name r.name ≡ Greater
passed name r rows at other = by_order (slice_cmp nat_cmp name r.name) refl at
  where
    by_order : (o : Ordering) → slice_cmp nat_cmp name r.name ≡ o → match_ordering o false true (is_reached name rows) ≡ true → o ≡ Greater
    by_order Less e a = absurd (false≢true a)
    by_order Equal e a = absurd (false≢true (sym other ∙ nat_list_eq_equiv.symm r.name name ∙ level_equal name r.name e))
    by_order Greater e a = refl

pub level : (a b : List ℕ) → pointwise nat_eq a b ≡ true → slice_cmp nat_cmp b a ≡ Equal
level a b e = subst (λ x. slice_cmp nat_cmp b x ≡ Equal) (sym ((bytes_decides a b).0 e)) (level_itself b)

-- what is missing of the walk once the row of another name is passed over
pub walked : (name : List ℕ) (n : ℕ) (rows : List Row) (i : ℕ) (r : Row) → i < length rows → r ≡ get_or rows i r → is_reached name (drop i rows) ≡ true → pointwise nat_eq r.name name ≡ false
    → (take (suc i) rows ++ raised name n (drop (suc i) rows) ≡ take i rows ++ raised name n (drop i rows)) × (is_reached name (drop (suc i) rows) ≡ true)
walked name n [] i r within is at other = absurd (omega arith)
walked name n (s ∷ rows) zero r within is at other =
    let later : slice_cmp nat_cmp name s.name ≡ Greater = passed name s rows at (ap (λ (x : Row). pointwise nat_eq x.name name) (sym is) ∙ other) in
    (rw later refl, rw later at at)
walked name n (s ∷ rows) (suc i) r within is at other =
    let rest = walked name n rows i r (omega arith) is at other in
    (ap (λ xs. s ∷ xs) rest.0, rest.1)
