-- What all frameworks hold is no more than what all are allocated.
use Rattle.std.proofs.Common.{◌≡◌, ℕ, zero, suc, ◌+◌, ◌<◌, ◌≤◌, length, take, get_or, List, [], ◌∷◌, ◌++◌, map, Option, Some, None, refl, sym, ap, ◌∙◌, arith}
use Rattle.std.specs.List.{find}
use Rattle.names_core.specs.Ids.{Numbered}
use Rattle.quantity.specs.declared.rows.Row.{Row}
use Rattle.quantity.specs.Rows.{amount}
use Rattle.quantity.proofs.Amounts.{amount-append}
use Rattle.drf_shares.specs.Sums.{AddUp}
use Rattle.drf_pick.specs.Shares.{CanHold, Holder, Tally, all_held, given_holders, holding, is_holder}
use Rattle.drf_pick.specs.Allocations.{Allocation, Client, all_rows, allocated, role_rows, rows_to}
use Rattle.drf_pick.specs.Shown.{ClientsOnce, HoldersShow, NoneOf, TallyShows}
use Rattle.drf_pick.proofs.AllocationRows.{all-one, role_all}
use Rattle.drf_pick.proofs.Places.{unchanged}
use Rattle.drf_pick.proofs.RoleSums.{all_changed_by}

-- the same frameworks, all of one role
abbrev roleless : Client → Client
roleless c = record c { role = [] }

abbrev alike : List Client → List Client
alike cs = map roleless cs

none_alike : (id : Numbered) (cs : List Client) → NoneOf id cs → NoneOf id (alike cs)
none_alike id [] none = tt
none_alike id (c ∷ cs) none = (none.0, none_alike id cs none.1)

once_alike : (cs : List Client) → ClientsOnce cs → ClientsOnce (alike cs)
once_alike [] once = tt
once_alike (c ∷ cs) once = (none_alike c.framework cs once.0, once_alike cs once.1)

held_alike : (name : List ℕ) (gs : List Allocation) (hs : List Holder) (cs : List Client) → HoldersShow gs hs cs → amount name (all_held hs) ≡ amount name (role_rows (alike cs) [] gs)
held_alike name gs [] [] s = refl
held_alike name gs [] (c ∷ cs) s = absurd s
held_alike name gs (h ∷ hs) [] s = absurd s
held_alike name gs (h ∷ hs) (c ∷ cs) s =
    omega (arith, amount-append name h.held (all_held hs), amount-append name (rows_to c.framework gs) (role_rows (alike cs) [] gs), s.0.2 name, held_alike name gs hs cs s.1)

pub held_all : (name : List ℕ) (gs : List Allocation) (cs : List Client) (t : Tally) → ClientsOnce cs → TallyShows gs cs t → amount name (all_held t.holders) ≤ amount name (all_rows gs)
held_all name gs cs t once s = omega (arith, held_alike name gs t.holders cs s.holders, role_all name (alike cs) [] gs (once_alike cs once))

-- so more can be held where all can be summed with it
pub can_hold : (gs : List Allocation) (rows : List Row) (cs : List Client) (t : Tally) → ClientsOnce cs → TallyShows gs cs t → AddUp (all_rows gs ++ rows) → CanHold rows t
can_hold gs rows cs t once s up name = omega (arith, held_all name gs cs t once s, up name, amount-append name (all_rows gs) rows)

-- when an allocation is given the rest still can be
held_more_small : (name : List ℕ) (f : Numbered) (rows : List Row) (hs : List Holder) → amount name (all_held (given_holders f rows hs)) ≤ amount name (all_held hs) + amount name rows
held_more_small name f rows hs = by (find (is_holder f) hs) refl
  where
    by : (o : Option Holder) → find (is_holder f) hs ≡ o → amount name (all_held (given_holders f rows hs)) ≤ amount name (all_held hs) + amount name rows
    by None none = omega (arith, ap (λ (ks : List Holder). amount name (all_held ks)) (sym (unchanged (is_holder f) (holding rows) hs none)))
    by (Some h) found = omega (arith, all_changed_by name f rows hs h found)

pub rest_holds : (a : Allocation) (gs : List Allocation) (t : Tally) → CanHold (all_rows (a ∷ gs)) t → CanHold (all_rows gs) (allocated t a)
rest_holds a gs t can name = omega (arith, can name, all-one name a gs, held_more_small name a.framework a.resources t.holders)

pub first_holds : (a : Allocation) (gs : List Allocation) (t : Tally) → CanHold (all_rows (a ∷ gs)) t → CanHold a.resources t
first_holds a gs t can name = omega (arith, can name, all-one name a gs)

-- what the first of them hold

pub taken_held : (name : List ℕ) (hs : List Holder) (i : ℕ) (h : Holder) → i < length hs → h ≡ get_or hs i h → amount name (all_held (take i hs)) + amount name h.held ≤ amount name (all_held hs)
taken_held name [] i h within is = absurd (omega arith)
taken_held name (k ∷ hs) zero h within is =
    let own : amount name h.held ≡ amount name k.held = ap (λ (x : Holder). amount name x.held) is in
    omega (arith, own, amount-append name k.held (all_held hs))
taken_held name (k ∷ hs) (suc i) h within is = omega (arith, amount-append name k.held (all_held hs), amount-append name k.held (all_held (take i hs)), taken_held name hs i h (omega arith) is)

pub taken_more : (name : List ℕ) (hs : List Holder) (i : ℕ) (h : Holder) → i < length hs → h ≡ get_or hs i h → amount name (all_held (take (i + 1) hs)) ≡ amount name (all_held (take i hs)) + amount name h.held
taken_more name hs i h within is =
    let one : i + 1 ≡ suc i = omega arith in
    ap (λ n. amount name (all_held (take n hs))) one ∙ by hs i within is
  where
    by : (ks : List Holder) (j : ℕ) → j < length ks → h ≡ get_or ks j h → amount name (all_held (take (suc j) ks)) ≡ amount name (all_held (take j ks)) + amount name h.held
    by [] j w e = absurd (omega arith)
    by (k ∷ ks) zero w e =
        let own : amount name h.held ≡ amount name k.held = ap (λ (x : Holder). amount name x.held) e in
        omega (arith, own, amount-append name k.held (all_held []))
    by (k ∷ ks) (suc j) w e = omega (arith, amount-append name k.held (all_held (take (suc j) ks)), amount-append name k.held (all_held (take j ks)), by ks j (omega arith) e)
