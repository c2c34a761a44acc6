-- Amounts in order of names: as members, and read back.
use Rattle.std.proofs.Common.{◌≡◌, ℕ, ◌+◌, ◌<◌, ◌≤◌, List, [], ◌∷◌, ◌++◌, length, take, drop, get_or, ne_eqb, false, Some, Ok, Less, Greater, nat_cmp, nat_lt, refl, sym, ap, subst, ◌∙◌, append_assoc, append-nil, arith, le-ltb}
use Rattle.std.proofs.lemmas.Cmp.{nat_list_cmp_total}
use Rattle.std.proofs.lemmas.List.{length-append, drop_more, take_more, take-append-drop}
use Rattle.std.specs.Cmp.Lexicographic.{slice_cmp}
use Rattle.std.specs.List.{AllByRecursion, list_any}
use Rattle.std.specs.List.Sorted.{IsStrictlySortedBy}
use Rattle.std.specs.Ordering.{ordering_reverse}
use Rattle.serde_json.specs.Data.{Members, member, put}
use Rattle.quantity.specs.declared.rows.Row.{Row}
use Rattle.quantity.specs.Rows.{name_order, IsRow, AreRows, raised, added, greatest_amount, names_limit}
use Rattle.event_json.specs.Texts.{whole, row_members}
use Rattle.event_json.specs.Reading.{rows_in}
use Rattle.event_json.proofs.Compact.{puts, HasPlain}

-- a row behind the first one
first_before : (first : Row) (done : List Row) (r : Row) (more : List Row) → AllByRecursion (λ s. name_order first s ≡ Less) (done ++ r ∷ more) → name_order first r ≡ Less
first_before first [] r more h = h.0
first_before first (s ∷ done) r more h = first_before first done r more h.1

-- seen from the later one
later : (first : Row) (done : List Row) (r : Row) (more : List Row) → AllByRecursion (λ s. name_order first s ≡ Less) (done ++ r ∷ more) → slice_cmp nat_cmp r.name first.name ≡ Greater
later first done r more h = nat_list_cmp_total.antisymm r.name first.name ∙ ap ordering_reverse (first_before first done r more h)

pub put_behind : (done : List Row) (r : Row) (more : List Row) → IsStrictlySortedBy name_order (done ++ r ∷ more) → put r.name (whole r.amount) (row_members done) ≡ row_members (done ++ r ∷ [])
unfolding IsStrictlySortedBy
put_behind [] r more h = refl
put_behind (first ∷ done) r more h = rw (later first done r more h.0) (ap (member first.name (whole first.amount)) (put_behind done r more h.1))

raised_behind : (done : List Row) (r : Row) (more : List Row) → IsStrictlySortedBy name_order (done ++ r ∷ more) → raised r.name r.amount done ≡ done ++ r ∷ []
unfolding IsStrictlySortedBy
raised_behind [] r more h = refl
raised_behind (first ∷ done) r more h = rw (later first done r more h.0) (ap (λ (rows : List Row). first ∷ rows) (raised_behind done r more h.1))

next : (done : List Row) (r : Row) (more : List Row) → (done ++ r ∷ []) ++ more ≡ done ++ r ∷ more
next done r more = append_assoc done (r ∷ []) more

pub puts_rows : (done more : List Row) → IsStrictlySortedBy name_order (done ++ more) → puts (row_members done) (row_members more) ≡ row_members (done ++ more)
puts_rows done [] h = ap row_members (sym (append-nil done))
puts_rows done (r ∷ more) h =
    let step = ap (λ (found : Members). puts found (row_members more)) (put_behind done r more h) in
    step ∙ (puts_rows (done ++ r ∷ []) more (subst (IsStrictlySortedBy name_order) (sym (next done r more)) h) ∙ ap row_members (next done r more))

-- ---- amounts added one after another

none_large : (rows more : List Row) → AllByRecursion IsRow (rows ++ more) → list_any (λ r. nat_lt greatest_amount r.amount) rows ≡ false
none_large [] more h = refl
none_large (r ∷ rows) more h = rw (le-ltb greatest_amount r.amount h.0.at_most) (none_large rows more h.1)

row_at : (done : List Row) (r : Row) (more : List Row) → AllByRecursion IsRow (done ++ r ∷ more) → IsRow r
row_at [] r more h = h.0
row_at (s ∷ done) r more h = row_at done r more h.1

added_behind : (done : List Row) (r : Row) (more : List Row) → AreRows (done ++ r ∷ more) → added r.name r.amount done ≡ Ok (done ++ r ∷ [])
added_behind done r more are =
    let each = subst (AllByRecursion IsRow) (sym (next done r more)) are.each in
    let one = row_at done r more are.each in
    let few : length (done ++ r ∷ []) ≤ names_limit = omega (arith, are.few, length-append (done ++ r ∷ []) more, ap length (next done r more)) in
    rw (one.named, ne_eqb r.amount 0 (λ z. omega (arith, z, one.positive)), raised_behind done r more are.ordered, none_large (done ++ r ∷ []) more each, le-ltb names_limit (length (done ++ r ∷ [])) few) refl

pub rows_again : (done more : List Row) → AreRows (done ++ more) → rows_in done (row_members more) ≡ Some (done ++ more)
rows_again done [] are = ap (λ (rows : List Row). Some rows) (sym (append-nil done))
rows_again done (r ∷ more) are =
    rw (added_behind done r more are) (rows_again (done ++ r ∷ []) more (subst AreRows (sym (next done r more)) are) ∙ ap (λ (rows : List Row). Some rows) (next done r more))

pub plain_rows : (rows : List Row) → AllByRecursion IsRow rows → HasPlain (row_members rows)
plain_rows [] h = tt
plain_rows (r ∷ rows) h = (omega (arith, h.0.at_most), plain_rows rows h.1)

-- the members of one row more
pub put_next : (rows : List Row) (i : ℕ) (r : Row) → i < length rows → r ≡ get_or rows i r → AreRows rows → put r.name (whole r.amount) (row_members (take i rows)) ≡ row_members (take (i + 1) rows)
put_next rows i r lt is are =
    let behind : drop i rows ≡ r ∷ drop (i + 1) rows = drop_more rows i r lt ∙ ap (λ (w : Row). w ∷ drop (i + 1) rows) (sym is) in
    let split : rows ≡ take i rows ++ r ∷ drop (i + 1) rows = sym (take-append-drop i rows) ∙ ap (λ (b : List Row). take i rows ++ b) behind in
    let more : take (i + 1) rows ≡ take i rows ++ r ∷ [] = take_more rows i r lt ∙ ap (λ (w : Row). take i rows ++ w ∷ []) (sym is) in
    put_behind (take i rows) r (drop (i + 1) rows) (subst (IsStrictlySortedBy name_order) split are.ordered) ∙ ap row_members (sym more)
