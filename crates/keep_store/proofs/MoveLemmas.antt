-- What is kept where tables are new, and what shown rows say of it.
use Rattle.std.proofs.Common.{◌≡◌, List, [], ◌∷◌, length, map, refl, arith}
use Rattle.std.specs.List.Sorted.{IsPermutation}
use Rattle.std.proofs.lemmas.List.Sorted.{length_permutation}
use Rattle.sqlite.specs.Order.{Row}
use Rattle.sqlite.specs.Tree.{Trees}
use Rattle.keep_tables.specs.Tables.{AddsFirst, AddsTables, AddsTotals, amount_shown, values_of}
use Rattle.keep_store.specs.SavesKept.{body_in, kept_in, last_in}
use Rattle.keep_store.specs.Kept.{AddsRows, HasNothing, first_kept, nothing, second_kept, shown_body, shown_last, value_in}

body_first : (rows : List Row) → body_in rows [] [] [] ≡ value_in rows
body_first [] = refl
body_first (row ∷ more) = refl

-- one step
pub first_fresh : (old db : Trees) → AddsFirst old db → first_kept db ≡ nothing
first_fresh old db h = rw (h.records, h.runs) refl

pub first_seconded : (old db : Trees) → AddsTables old db → second_kept db ≡ first_kept old
first_seconded old db h = rw (h.records, h.runs, h.heads, h.tasks, body_first (old 0)) refl

pub second_moved : (old new : Trees) → AddsTotals old new → kept_in new ≡ second_kept old
second_moved old new k = rw (k.records, k.runs, k.heads, k.tasks, k.totals) refl

-- all steps
pub all_fresh : (db : Trees) → HasNothing db → kept_in db ≡ nothing
all_fresh db none = rw (none.records, none.runs, none.heads, none.tasks, none.totals) refl

pub first_moved : (old db : Trees) → AddsRows old db → kept_in db ≡ first_kept old
first_moved old db h = rw (h.records, h.runs, h.heads, h.tasks, h.totals, body_first (old 0)) refl

-- what the shown rows say is what the table's rows say
pub body_shown : (held : List Row) → shown_body (values_of held) ≡ value_in held
body_shown [] = refl
body_shown (row ∷ more) = refl

pub last_shown : (held : List Row) → shown_last (values_of held) ≡ last_in held
last_shown [] = refl
last_shown (row ∷ more) = refl

-- where no amount is shown, there is none
pub no_amount_shown : (held rows : List Row) → IsPermutation (map amount_shown held) rows → length rows ≡ 0 → held ≡ []
no_amount_shown [] rows same none = refl
no_amount_shown (r ∷ more) rows same none = absurd (omega (arith, none, length_permutation _ _ same))
