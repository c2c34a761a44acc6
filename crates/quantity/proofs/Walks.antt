-- Walking over rows in order, side by side.
use Rattle.std.proofs.Common.{◌≡◌, ℕ, suc, zero, ◌+◌, ◌<◌, ◌≤◌, Bool, false, nat_eq, List, [], ◌∷◌, ◌++◌, length, take, drop, map, refl, sym, ap, ◌∙◌, subst, append_assoc, get_or, arith}
use Rattle.std.specs.Prelude.{nat_le}
use Rattle.std.specs.List.{AllByRecursion, list_all}
use Rattle.std.specs.List.Sorted.{IsStrictlySortedBy}
use Rattle.std.specs.Cmp.Lexicographic.{pointwise, slice_cmp}
use Rattle.std.specs.Ordering.{nat_cmp, is_lt, match_ordering}
use Rattle.std.specs.declared.cmp.Ordering.{Ordering}
use Rattle.std.specs.declared.cmp.Ordering.TheVariants.{Less, Equal, Greater}
use Rattle.std.proofs.lemmas.Bool.{cond_both, le-leb, lt-leb}
use Rattle.std.proofs.lemmas.List.{drop_more}
use Rattle.quantity.specs.Rows.{Row, part_of, amount, covers, name_order, greatest_amount, IsRow, row, raised, plus_rows}
use Rattle.quantity.specs.Merging.{is_below, count_below, rows_from, front_amount, rows_past, sum_upto}
use Rattle.quantity.proofs.Orders.{below_other, above_other, below_back, above_back, below_trans, level_same, level_back, level_equal}
use Rattle.quantity.proofs.Amounts.{amount-cons, amount-above, amount_of_first, all_above}

pub ordered_drop : (n : ℕ) (rows : List Row) → IsStrictlySortedBy name_order rows → IsStrictlySortedBy name_order (drop n rows)
unfolding IsStrictlySortedBy
ordered_drop zero rows ordered = ordered
ordered_drop (suc n) [] ordered = tt
ordered_drop (suc n) (r ∷ rows) ordered = ordered_drop n rows ordered.1

pub all_drop : (P : Row → Type 0) (n : ℕ) (rows : List Row) → AllByRecursion P rows → AllByRecursion P (drop n rows)
all_drop P zero rows h = h
all_drop P (suc n) [] h = tt
all_drop P (suc n) (r ∷ rows) h = all_drop P n rows h.1

pub count_one : (name : List ℕ) (r : Row) (rows : List Row) → slice_cmp nat_cmp r.name name ≡ Less → count_below name (r ∷ rows) ≡ suc (count_below name rows)
count_one name r rows below = rw below (omega arith)

pub count_none : (name : List ℕ) (r : Row) (rows : List Row) → is_below name r ≡ false → count_below name (r ∷ rows) ≡ 0
count_none name r rows at = rw at refl

pub from_below : (name : List ℕ) (r : Row) (rows : List Row) → slice_cmp nat_cmp r.name name ≡ Less → rows_from name (r ∷ rows) ≡ rows_from name rows
from_below name r rows below = ap (λ n. drop n (r ∷ rows)) (count_one name r rows below)

pub from_here : (name : List ℕ) (r : Row) (rows : List Row) → is_below name r ≡ false → rows_from name (r ∷ rows) ≡ r ∷ rows
from_here name r rows at = ap (λ n. drop n (r ∷ rows)) (count_none name r rows at)

-- the row that stands first from a name on has all that the rows have of it
pub front_is : (name : List ℕ) (rows : List Row) → IsStrictlySortedBy name_order rows → front_amount name (rows_from name rows) ≡ amount name rows
unfolding IsStrictlySortedBy
front_is name [] ordered = refl
front_is name (r ∷ rows) ordered = by_order (slice_cmp nat_cmp r.name name) refl (front_is name rows ordered.1)
  where
    by_order : (o : Ordering) → slice_cmp nat_cmp r.name name ≡ o → front_amount name (rows_from name rows) ≡ amount name rows
        → front_amount name (rows_from name (r ∷ rows)) ≡ amount name (r ∷ rows)
    by_order Less e behind =
        let none : part_of name r ≡ 0 = rw (below_other r.name name e) refl in
        ap (front_amount name) (from_below name r rows e) ∙ behind ∙ omega (arith, amount-cons name r rows, none)
    by_order Equal e behind =
        let above : AllByRecursion (λ s. slice_cmp nat_cmp name s.name ≡ Less) rows =
        subst (λ n. AllByRecursion (λ s. slice_cmp nat_cmp n s.name ≡ Less) rows) (level_same r.name name e) ordered.0 in
        ap (front_amount name) (from_here name r rows (ap is_lt e)) ∙ omega (arith, amount-cons name r rows, amount-above name rows above)
    by_order Greater e behind =
        let after = below_back r.name name e in
        ap (front_amount name) (from_here name r rows (ap is_lt e)) ∙ omega (arith, amount-cons name r rows, amount-above name rows (all_above name r rows after ordered.0))

-- the rows before a name have nothing of the names behind it
from_keeps : (name other : List ℕ) (rows : List Row) → slice_cmp nat_cmp name other ≡ Less → amount other (rows_from name rows) ≡ amount other rows
from_keeps name other [] behind = refl
from_keeps name other (r ∷ rows) behind = by_order (slice_cmp nat_cmp r.name name) refl (from_keeps name other rows behind)
  where
    by_order : (o : Ordering) → slice_cmp nat_cmp r.name name ≡ o → amount other (rows_from name rows) ≡ amount other rows → amount other (rows_from name (r ∷ rows)) ≡ amount other (r ∷ rows)
    by_order Less e same =
        let none : part_of other r ≡ 0 = rw (below_other r.name other (below_trans r.name name other e behind)) refl in
        ap (amount other) (from_below name r rows e) ∙ same ∙ omega (arith, amount-cons other r rows, none)
    by_order Equal e same = ap (amount other) (from_here name r rows (ap is_lt e))
    by_order Greater e same = ap (amount other) (from_here name r rows (ap is_lt e))

pub rest_serves : (name : List ℕ) (rest total rows : List Row) → AllByRecursion (λ s. slice_cmp nat_cmp name s.name ≡ Less) rows
    → AllByRecursion (λ s. amount s.name rest ≡ amount s.name total) rows → AllByRecursion (λ s. amount s.name (rows_from name rest) ≡ amount s.name total) rows
rest_serves name rest total [] behind serves = tt
rest_serves name rest total (s ∷ rows) behind serves =
    (from_keeps name s.name rest behind.0 ∙ serves.0, rest_serves name rest total rows behind.1 serves.1)

pub itself_serves : (total rows : List Row) → AllByRecursion (λ s. amount s.name total ≡ amount s.name total) rows
itself_serves total [] = tt
itself_serves total (s ∷ rows) = (refl, itself_serves total rows)

below_count : (name : List ℕ) (rows : List Row) → AllByRecursion (λ b. slice_cmp nat_cmp b.name name ≡ Less) (take (count_below name rows) rows)
below_count name [] = tt
below_count name (r ∷ rows) = by_order (slice_cmp nat_cmp r.name name) refl (below_count name rows)
  where
    by_order : (o : Ordering) → slice_cmp nat_cmp r.name name ≡ o → AllByRecursion (λ b. slice_cmp nat_cmp b.name name ≡ Less) (take (count_below name rows) rows)
        → AllByRecursion (λ b. slice_cmp nat_cmp b.name name ≡ Less) (take (count_below name (r ∷ rows)) (r ∷ rows))
    by_order Less e behind = rw (count_one name r rows e) (e, behind)
    by_order Equal e behind = rw (count_none name r rows (ap is_lt e)) tt
    by_order Greater e behind = rw (count_none name r rows (ap is_lt e)) tt

-- raising a name leaves the rows before it, then has its row, then the rows behind it
raised_split : (name : List ℕ) (n : ℕ) (rows : List Row)
    → raised name n rows ≡ take (count_below name rows) rows ++ row name (front_amount name (rows_from name rows) + n) ∷ rows_past name (rows_from name rows)
raised_split name n [] = ap (λ m. row name m ∷ []) (omega arith)
raised_split name n (r ∷ rows) = by_order (slice_cmp nat_cmp name r.name) refl (raised_split name n rows)
  where
    by_order : (o : Ordering) → slice_cmp nat_cmp name r.name ≡ o
        → raised name n rows ≡ take (count_below name rows) rows ++ row name (front_amount name (rows_from name rows) + n) ∷ rows_past name (rows_from name rows)
        → match_ordering o (row name n ∷ r ∷ rows) (row name (r.amount + n) ∷ rows) (r ∷ raised name n rows)
        ≡ take (count_below name (r ∷ rows)) (r ∷ rows) ++ row name (front_amount name (rows_from name (r ∷ rows)) + n) ∷ rows_past name (rows_from name (r ∷ rows))
    by_order Less e behind =
        let none = count_none name r rows (ap is_lt (above_back name r.name e)) in
        rw none (rw (above_other r.name name e) (ap (λ m. row name m ∷ r ∷ rows) (omega arith)))
    by_order Equal e behind =
        let level = level_back name r.name e in
        rw (count_none name r rows (ap is_lt level)) (rw (level_equal r.name name level) refl)
    by_order Greater e behind = rw (count_one name r rows (below_back name r.name e)) (ap (λ xs. r ∷ xs) behind)

raised_behind : (name : List ℕ) (n : ℕ) (front rows : List Row) → AllByRecursion (λ b. slice_cmp nat_cmp b.name name ≡ Less) front → raised name n (front ++ rows) ≡ front ++ raised name n rows
raised_behind name n [] rows below = refl
raised_behind name n (b ∷ front) rows below = rw (above_back b.name name below.0) (ap (λ xs. b ∷ xs) (raised_behind name n front rows below.1))

plus_behind : (front rows others : List Row) → AllByRecursion (λ o. AllByRecursion (λ b. name_order b o ≡ Less) front) others → plus_rows (front ++ rows) others ≡ front ++ plus_rows rows others
plus_behind front rows [] below = refl
plus_behind front rows (o ∷ others) below =
    ap (λ xs. plus_rows xs others) (raised_behind o.name o.amount front rows below.0) ∙ plus_behind front (raised o.name o.amount rows) others below.1

-- rows behind a name stand behind all that stand before it
all_between : (name : List ℕ) (front others : List Row) → AllByRecursion (λ b. slice_cmp nat_cmp b.name name ≡ Less) front → AllByRecursion (λ o. slice_cmp nat_cmp name o.name ≡ Less) others
    → AllByRecursion (λ o. AllByRecursion (λ b. name_order b o ≡ Less) front) others
all_between name front [] below above = tt
all_between name front (o ∷ others) below above = (one front below, all_between name front others below above.1)
  where
    one : (bs : List Row) → AllByRecursion (λ b. slice_cmp nat_cmp b.name name ≡ Less) bs → AllByRecursion (λ b. name_order b o ≡ Less) bs
    one [] h = tt
    one (b ∷ bs) h = (below_trans b.name name o.name h.0 above.0, one bs h.1)

all_push : (P : Row → Type 0) (xs : List Row) (x : Row) → AllByRecursion P xs → P x → AllByRecursion P (xs ++ x ∷ [])
all_push P [] x h p = (p, tt)
all_push P (y ∷ xs) x h p = (h.0, all_push P xs x h.1 p)

all_each_push : (front others : List Row) (x : Row) → AllByRecursion (λ o. AllByRecursion (λ b. name_order b o ≡ Less) front) others → AllByRecursion (λ o. name_order x o ≡ Less) others
    → AllByRecursion (λ o. AllByRecursion (λ b. name_order b o ≡ Less) (front ++ x ∷ [])) others
all_each_push front [] x h p = tt
all_each_push front (o ∷ others) x h p = (all_push (λ b. name_order b o ≡ Less) front x h.0 p.0, all_each_push front others x h.1 p.1)

-- a sum with rows in order: what it has up to the first of these, and the sum behind
pub plus_step : (rows : List Row) (o : Row) (others : List Row) → IsStrictlySortedBy name_order (o ∷ others)
    → plus_rows rows (o ∷ others) ≡ sum_upto rows o ++ plus_rows (rows_past o.name (rows_from o.name rows)) others
unfolding IsStrictlySortedBy
plus_step rows o others ordered =
    let front = take (count_below o.name rows) rows in
    let past = rows_past o.name (rows_from o.name rows) in
    let here : Row = row o.name (front_amount o.name (rows_from o.name rows) + o.amount) in
    let below = all_each_push front others here (all_between o.name front others (below_count o.name rows) ordered.0) ordered.0 in
    ap (λ xs. plus_rows xs others) (raised_split o.name o.amount rows ∙ sym (append_assoc front (here ∷ []) past)) ∙ plus_behind (front ++ here ∷ []) past others below

-- each row is at most the total's amount of its name
abbrev pub fit : List Row → List Row → Bool
fit total rows = list_all (λ r. nat_le r.amount (amount r.name total)) rows

-- where a list of rows is in order, the test of each row's own amount is the test of its name's
fit_part : (total whole rows : List Row) → AllByRecursion (λ r. amount r.name whole ≡ r.amount) rows
    → list_all (λ r. nat_le (amount r.name whole) (amount r.name total)) rows ≡ fit total rows
fit_part total whole [] own = refl
fit_part total whole (r ∷ rows) own = rw (own.0, fit_part total whole rows own.1) refl

own_amounts : (rows : List Row) → IsStrictlySortedBy name_order rows → AllByRecursion (λ r. amount r.name rows ≡ r.amount) rows
unfolding IsStrictlySortedBy
own_amounts [] ordered = tt
own_amounts (r ∷ rows) ordered = (amount_of_first r rows ordered, behind rows ordered.0 (own_amounts rows ordered.1))
  where
    behind : (some : List Row) → AllByRecursion (λ s. name_order r s ≡ Less) some → AllByRecursion (λ s. amount s.name rows ≡ s.amount) some
        → AllByRecursion (λ s. amount s.name (r ∷ rows) ≡ s.amount) some
    behind [] below own = tt
    behind (s ∷ some) below own =
        let none : part_of s.name r ≡ 0 = rw (below_other r.name s.name below.0) refl in
        (omega (arith, amount-cons s.name r rows, none, own.0), behind some below.1 own.1)

pub covers_is_fit : (total rows : List Row) → IsStrictlySortedBy name_order rows → covers total rows ≡ fit total rows
covers_is_fit total rows ordered = fit_part total rows rows (own_amounts rows ordered)

pub rows_past_are : (name : List ℕ) (rows : List Row) → AllByRecursion IsRow rows → AllByRecursion IsRow (rows_past name rows)
rows_past_are name [] are = tt
rows_past_are name (r ∷ rows) are = cond_both (pointwise nat_eq r.name name) rows (r ∷ rows) (AllByRecursion IsRow) (λ e. are.1) (λ e. are)

pub front_small : (name : List ℕ) (rows : List Row) → AllByRecursion IsRow rows → front_amount name rows ≤ greatest_amount
front_small name [] are = omega arith
front_small name (r ∷ rows) are = cond_both (pointwise nat_eq r.name name) r.amount 0 (λ n. n ≤ greatest_amount) (λ e. are.0.at_most) (λ e. omega arith)

-- rests that serve some rows in order: of each of their names they have what the total has
pub record Serves (total rest rows : List Row) : Type 0 where
  pub ordered : IsStrictlySortedBy name_order rest
  pub alike : AllByRecursion (λ s. amount s.name rest ≡ amount s.name total) rows

pub serves_all : (total rows : List Row) → IsStrictlySortedBy name_order total → Serves total total rows
serves_all total rows ordered = record { ordered = ordered; alike = itself_serves total rows }

-- the rows from the first row's name on serve the rows behind it
pub serves_more : (total rest : List Row) (r : Row) (rows : List Row) → IsStrictlySortedBy name_order (r ∷ rows) → Serves total rest (r ∷ rows) → Serves total (rows_from r.name rest) rows
unfolding IsStrictlySortedBy
serves_more total rest r rows ordered serves =
    record { ordered = ordered_drop (count_below r.name rest) rest serves.ordered; alike = rest_serves r.name rest total rows ordered.0 serves.alike.1 }

-- and the first of them has what the total has of its name
pub serves_here : (total rest : List Row) (r : Row) (rows : List Row) → Serves total rest (r ∷ rows) → front_amount r.name (rows_from r.name rest) ≡ amount r.name total
serves_here total rest r rows serves = front_is r.name rest serves.ordered ∙ serves.alike.0

pub fit_more : (total : List Row) (r : Row) (rows : List Row) → r.amount ≤ amount r.name total → fit total (r ∷ rows) ≡ fit total rows
fit_more total r rows h = rw (le-leb r.amount (amount r.name total) h) refl

pub fit_fails : (total : List Row) (r : Row) (rows : List Row) → amount r.name total < r.amount → fit total (r ∷ rows) ≡ false
fit_fails total r rows h = rw (lt-leb r.amount (amount r.name total) h) refl

-- what a walk reads at a row: the row of the list, and what the rests have of its name
pub row_at : (rows : List Row) (i : ℕ) (r : Row) → i < length rows → r ≡ get_or rows i r → drop i rows ≡ r ∷ drop (i + 1) rows
row_at rows i r within is = drop_more rows i r within ∙ ap (λ (x : Row). x ∷ drop (i + 1) rows) (sym is)

pub read_front : (total rest : List Row) (r : Row) (rows : List Row) (name : List ℕ) (from : List Row) (n : ℕ) → name ≡ r.name → from ≡ rows_from name rest → n ≡ front_amount name from
    → Serves total rest (r ∷ rows) → n ≡ amount r.name total
read_front total rest r rows name from n named is front serves =
    front ∙ ap (front_amount name) is ∙ ap (λ x. front_amount x (rows_from x rest)) named ∙ serves_here total rest r rows serves

pub read_rest : (total rest : List Row) (r : Row) (rows : List Row) (name : List ℕ) (from : List Row) → name ≡ r.name → from ≡ rows_from name rest → IsStrictlySortedBy name_order (r ∷ rows)
    → Serves total rest (r ∷ rows) → Serves total from rows
read_rest total rest r rows name from named is ordered serves =
    subst (λ xs. Serves total xs rows) (sym (is ∙ ap (λ x. rows_from x rest) named)) (serves_more total rest r rows ordered serves)

pub length-drop_le : (n : ℕ) (rows : List Row) → length (drop n rows) ≤ length rows
length-drop_le zero rows = omega arith
length-drop_le (suc n) [] = omega arith
length-drop_le (suc n) (r ∷ rows) = omega (arith, length-drop_le n rows)

pub length-rows_past : (name : List ℕ) (rows : List Row) → length (rows_past name rows) ≤ length rows
length-rows_past name [] = omega arith
length-rows_past name (r ∷ rows) = cond_both (pointwise nat_eq r.name name) rows (r ∷ rows) (λ xs. length xs ≤ length (r ∷ rows)) (λ e. omega arith) (λ e. omega arith)

-- what stands at the place that a map in place has come to
pub mapped_at : (f : Row → Row) (xs : List Row) (i : ℕ) (d : Row) → get_or (map f (take i xs) ++ drop i xs) i d ≡ get_or xs i d
mapped_at f xs zero d = refl
mapped_at f [] (suc i) d = refl
mapped_at f (x ∷ xs) (suc i) d = mapped_at f xs i d
