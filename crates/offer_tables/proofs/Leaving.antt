-- What is left of a total's rows, place by place.
use Rattle.std.proofs.Common.{◌≡◌, ℕ, zero, suc, ◌+◌, ◌-◌, ◌<◌, ◌≤◌, nat_eq, nat_lt, Bool, true, false, cond, List, [], ◌∷◌, map, filter, length, get_or, drop, refl, sym, ap, ◌∙◌, subst, arith}
use Rattle.std.specs.Prelude.{not, Result, Ok, Err}
use Rattle.std.specs.List.{AllByRecursion, list_any}
use Rattle.std.specs.List.Sorted.{IsStrictlySortedBy}
use Rattle.std.specs.Cmp.Lexicographic.{pointwise}
use Rattle.std.specs.declared.cmp.Ordering.TheVariants.{Less}
use Rattle.std.proofs.lemmas.Bool.{cond_both, eqb-true, ltb-false}
use Rattle.quantity.specs.declared.rows.Row.{Row}
use Rattle.quantity.specs.declared.fault.QuantityFault.{QuantityFault}
use Rattle.quantity.specs.declared.fault.QuantityFault.TheVariants.{BadName, TooLarge, TooManyNames}
use Rattle.quantity.specs.Names.{is_resource_name}
use Rattle.quantity.specs.Rows.{added, amount, covers, greatest_amount, left_of, name_order, names_limit, part_of, raised, rest_of, row, within_limits, AreRows, IsPlus}
use Rattle.quantity.proofs.Amounts.{amount-cons, amount_of_first, amounts_determine_rows, covers_is_at_least}
use Rattle.quantity.proofs.Orders.{below_other}
use Rattle.quantity.proofs.Rests.{rests_are_rows}
use Rattle.quantity.proofs.Sums.{amount-raised}
use Rattle.offer_tables.specs.Rows.{left_at, left_in}

all_at : {X : Type 0} (P : X → Type 0) (xs : List X) (i : ℕ) (x : X) → AllByRecursion P xs → i < length xs → x ≡ get_or xs i x → P x
all_at P [] i x h within is = absurd (omega arith)
all_at P (y ∷ xs) zero x h within is = subst P (sym is) h.0
all_at P (y ∷ xs) (suc i) x h within is = all_at P xs i x h.1 (omega arith) is

-- a row has all of its name
own_amount : (total : List Row) (i : ℕ) (r : Row) → IsStrictlySortedBy name_order total → i < length total → r ≡ get_or total i r → amount r.name total ≡ r.amount
unfolding IsStrictlySortedBy
own_amount [] i r ordered within is = absurd (omega arith)
own_amount (q ∷ total) zero r ordered within is = subst (λ x. amount x.name (q ∷ total) ≡ x.amount) (sym is) (amount_of_first q total ordered)
own_amount (q ∷ total) (suc i) r ordered within is =
    let behind : name_order q r ≡ Less = all_at (λ s. name_order q s ≡ Less) total i r ordered.0 (omega arith) is in
    let none : part_of r.name q ≡ 0 = rw (below_other q.name r.name behind) refl in
    omega (arith, amount-cons r.name q total, none, own_amount total i r ordered.1 (omega arith) is)

-- what stays taken of a row, where more is given back of what was
pub given_row : (total taken others more : List Row) (i : ℕ) (r : Row) (n m x : ℕ) → AreRows total → i < length total → r ≡ get_or total i r → covers total taken ≡ true → IsPlus taken others more
    → n ≡ left_in taken r → m ≡ amount r.name more → x ≡ r.amount - (r.amount - n - m) → x ≡ left_in others r
given_row total taken others more i r n m x are within is covered plus n_is m_is x_is =
    omega (arith, own_amount total i r are.ordered within is, (covers_is_at_least total taken).0 covered r.name, plus r.name, n_is, m_is, x_is)

-- the amounts left of a name, behind rows of other names

none_left : (name : List ℕ) (total : List Row) → left_at name total [] ≡ 0
none_left name [] = refl
none_left name (r ∷ total) = refl

no_rows_left : (name : List ℕ) (left : List ℕ) → left_at name [] left ≡ 0
no_rows_left name left = refl

past_none : {X : Type 0} (i : ℕ) → drop {A = X} i [] ≡ []
past_none zero = refl
past_none (suc i) = refl

pub left_here : (name : List ℕ) (total : List Row) (left : List ℕ) (i : ℕ) (r : Row) → i < length total → r ≡ get_or total i r → pointwise nat_eq r.name name ≡ true
    → left_at name (drop i total) (drop i left) ≡ get_or left i 0
left_here name [] left i r within is hit = absurd (omega arith)
left_here name (q ∷ total) [] i r within is hit = ap (left_at name (drop i (q ∷ total))) (past_none i) ∙ none_left name (drop i (q ∷ total)) ∙ sym (nothing i)
  where
    nothing : (k : ℕ) → get_or {A = ℕ} [] k 0 ≡ 0
    nothing zero = refl
    nothing (suc k) = refl
left_here name (q ∷ total) (n ∷ left) zero r within is hit = let here : pointwise nat_eq q.name name ≡ true = ap (λ x. pointwise nat_eq x.name name) (sym is) ∙ hit in rw here refl
left_here name (q ∷ total) (n ∷ left) (suc i) r within is hit = left_here name total left i r (omega arith) is hit

behind_is : (name : List ℕ) (total : List Row) (left : List ℕ) (i : ℕ) (r : Row) → i < length total → r ≡ get_or total i r → pointwise nat_eq r.name name ≡ false
    → left_at name (drop i total) (drop i left) ≡ left_at name (drop (suc i) total) (drop (suc i) left)
behind_is name [] left i r within is miss = absurd (omega arith)
behind_is name (q ∷ total) [] i r within is miss =
    ap (left_at name (drop i (q ∷ total))) (past_none i) ∙ none_left name (drop i (q ∷ total))
    ∙ sym (ap (left_at name (drop (suc i) (q ∷ total))) (past_none {X = ℕ} (suc i)) ∙ none_left name (drop (suc i) (q ∷ total)))
behind_is name (q ∷ total) (n ∷ left) zero r within is miss = let here : pointwise nat_eq q.name name ≡ false = ap (λ x. pointwise nat_eq x.name name) (sym is) ∙ miss in rw here refl
behind_is name (q ∷ total) (n ∷ left) (suc i) r within is miss = behind_is name total left i r (omega arith) is miss

pub left_behind : (name : List ℕ) (total : List Row) (left : List ℕ) (i : ℕ) (r : Row) → i < length total → r ≡ get_or total i r → pointwise nat_eq r.name name ≡ false
    → left_at name (drop i total) (drop i left) ≡ left_at name (drop (i + 1) total) (drop (i + 1) left)
left_behind name total left i r within is miss =
    let next : suc i ≡ i + 1 = omega arith in
    behind_is name total left i r within is miss ∙ ap (λ k. left_at name (drop k total) (drop k left)) next

pub left_past : (name : List ℕ) (total : List Row) (left : List ℕ) (i : ℕ) → length total ≤ i → left_at name (drop i total) (drop i left) ≡ 0
left_past name [] left i past = ap (λ rows. left_at name rows (drop i left)) (past_none {X = Row} i)
left_past name (r ∷ total) left zero past = absurd (omega arith)
left_past name (r ∷ total) [] (suc i) past = none_left name (drop i total)
left_past name (r ∷ total) (n ∷ left) (suc i) past = left_past name total left i (omega arith)

-- rows that are added one by one

within_is : (rows out : List Row) → within_limits rows ≡ Ok out → out ≡ rows
within_is rows out h = by_large (list_any (λ r. nat_lt greatest_amount r.amount) rows) h
  where
    by_many : (b : Bool) → ◌≡◌ {A = Result (List Row) QuantityFault} (cond b (Err TooManyNames) (Ok rows)) (Ok out) → out ≡ rows
    by_many true e = absurd (cc)
    by_many false e = sym (cc)

    by_large : (b : Bool) → ◌≡◌ {A = Result (List Row) QuantityFault} (cond b (Err TooLarge) (cond (nat_lt names_limit (length rows)) (Err TooManyNames) (Ok rows))) (Ok out) → out ≡ rows
    by_large true e = absurd (cc)
    by_large false e = by_many (nat_lt names_limit (length rows)) e

pub added_amount : (q name : List ℕ) (n : ℕ) (rows out : List Row) → added name n rows ≡ Ok out → amount q out ≡ amount q rows + part_of q (row name n)
added_amount q name n rows out h = by_name (not (is_resource_name name)) h
  where
    nothing : (b : Bool) → ◌≡◌ {A = ℕ} (cond b 0 0) 0
    nothing true = refl
    nothing false = refl

    by_none : (b : Bool) → nat_eq n 0 ≡ b → ◌≡◌ {A = Result (List Row) QuantityFault} (cond b (Ok rows) (within_limits (raised name n rows))) (Ok out) → amount q out ≡ amount q rows + part_of q (row name n)
    by_none true z e =
        let zero_n : n ≡ 0 = eqb-true n 0 z in
        let same : rows ≡ out = cc in
        let none : part_of q (row name n) ≡ 0 = ap (λ k. part_of q (row name k)) zero_n ∙ nothing (pointwise nat_eq name q) in
        omega (arith, ap (amount q) same, none)
    by_none false z e = ap (amount q) (within_is (raised name n rows) out e) ∙ amount-raised q name n rows

    by_name : (b : Bool) → ◌≡◌ {A = Result (List Row) QuantityFault} (cond b (Err BadName) (cond (nat_eq n 0) (Ok rows) (within_limits (raised name n rows)))) (Ok out) → amount q out ≡ amount q rows + part_of q (row name n)
    by_name true e = absurd (cc)
    by_name false e = by_none (nat_eq n 0) refl e

-- rows of nothing count for nothing
kept_amount : (q : List ℕ) (rows : List Row) → amount q (filter (λ r. nat_lt 0 r.amount) rows) ≡ amount q rows
kept_amount q [] = refl
kept_amount q (r ∷ rows) =
    cond_both (nat_lt 0 r.amount) (r ∷ filter (λ s. nat_lt 0 s.amount) rows) (filter (λ s. nat_lt 0 s.amount) rows) (λ xs. amount q xs ≡ amount q (r ∷ rows))
    (λ e. omega (arith, amount-cons q r rows, amount-cons q r (filter (λ s. nat_lt 0 s.amount) rows), kept_amount q rows))
    (λ e. let none = nothing (pointwise nat_eq r.name q) (ltb-false 0 r.amount e) in omega (arith, amount-cons q r rows, none, kept_amount q rows))
  where
    nothing : (b : Bool) → r.amount ≤ 0 → cond b r.amount 0 ≡ 0
    nothing true h = omega arith
    nothing false h = refl

pub rest_from_amounts : (total taken rest : List Row) → AreRows total → AreRows rest → ((q : List ℕ) → amount q rest ≡ amount q (map (left_of taken) total)) → rest ≡ rest_of total taken
rest_from_amounts total taken rest are rest_are same =
    amounts_determine_rows rest (rest_of total taken) rest_are (rests_are_rows total taken are) (λ q. same q ∙ sym (kept_amount q (map (left_of taken) total)))
