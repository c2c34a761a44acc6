-- Agents enter the shares and leave them.
use Rattle.std.proofs.Common.{◌≡◌, ℕ, zero, suc, ◌+◌, ◌<◌, ◌≤◌, Bool, true, false, cond, List, [], ◌∷◌, ◌++◌, flat_map, take, length, set, get_or, Option, Some, None, is_some, inl, inr, refl, sym, ap, ◌∙◌, subst, arith}
use Rattle.quantity.specs.declared.rows.Row.{Row}
use Rattle.quantity.specs.Rows.{amount}
use Rattle.quantity.proofs.Amounts.{amount-append}
use Rattle.quantity.proofs.Rests.{amount-rest}
use Rattle.cluster_model.specs.Sides.{Side}
use Rattle.drf_shares.specs.Sums.{IsSum}
use Rattle.drf_pick.specs.declared.counted.CountedShares.{CountedShares}
use Rattle.drf_pick.specs.declared.counted.Found.{Found}
use Rattle.drf_pick.specs.declared.holder.Client.{Client}
use Rattle.drf_pick.specs.Shares.{Tally, departed, entered}
use Rattle.drf_pick.specs.Allocations.{AddUp}
use Rattle.drf_pick.specs.Shown.{StayCounted, TallyShows, all_owned, counted_of, rows_owned}
use Rattle.quantity.proofs.Sums.{sums_add_up}
use Rattle.drf_shares.specs.Sums.{CanAdd}
use Rattle.quantity.specs.Laws.{SameAmounts}
use Rattle.std.specs.Prelude.{slice_get}
use Rattle.master_rounds.proofs.Finding.{set_same}
use Rattle.master_rounds.specs.Owned.{AreUpToDate, IsUpToDate, IsUpToDateAt, LeavesAt, each_owned, owned_of, totals_in}

abbrev Owned : Type 0
Owned = Option (List Row)

-- where one agent's is another

owned_at : (os : List Owned) (i : ℕ) (o p : Owned) → i < length os → o ≡ get_or os i o → (name : List ℕ) → amount name (all_owned os) + amount name (rows_owned p) ≡ amount name (all_owned (set os i p)) + amount name (rows_owned o)
owned_at [] i o p within is name = absurd (omega arith)
owned_at (q ∷ os) zero o p within is name =
    let own : amount name (rows_owned q) ≡ amount name (rows_owned o) = ap (λ (x : Owned). amount name (rows_owned x)) (sym is) in
    omega (arith, own, amount-append name (rows_owned q) (all_owned os), amount-append name (rows_owned p) (all_owned os))
owned_at (q ∷ os) (suc i) o p within is name = omega (arith, owned_at os i o p (omega arith) is name, amount-append name (rows_owned q) (all_owned os), amount-append name (rows_owned q) (all_owned (set os i p)))

same_shown : (k m : CountedShares) (cs : List Client) (t : Tally) → m.shares ≡ t → t.holders ≡ k.shares.holders → t.roles ≡ k.shares.roles → m.found ≡ k.found → TallyShows (counted_of k.found.items) cs k.shares → TallyShows (counted_of m.found.items) cs m.shares
same_shown k m cs t is holders roles found s =
    subst (λ (u : Tally). TallyShows (counted_of m.found.items) cs u) (sym is)
    (subst (λ (fs : List Found). TallyShows (counted_of fs) cs t) (sym (ap (λ v. v.items) found))
    (record { holders = rw holders s.holders; known = rw roles s.known; roles = rw roles s.roles }))

-- an agent leaves
pub has_left : (k m : CountedShares) (i : ℕ) (total : List Row) → i < length k.owned.items → Some total ≡ get_or k.owned.items i (Some total) → IsSum k.shares.totals → m.shares ≡ departed total k.shares → m.found ≡ k.found → m.owned.items ≡ set k.owned.items i None
    → StayCounted k m
has_left k m i total within is sum shares found owned cs a = record {
  once = a.once;
  shown = same_shown k m cs (departed total k.shares) shares refl refl found a.shown;
  owned = λ name. omega (
    arith,
    ap (λ (t : Tally). amount name t.totals) shares,
    amount-rest k.shares.totals total sum.ordered name,
    a.owned name,
    ap (λ (os : List Owned). amount name (all_owned os)) owned,
    owned_at k.owned.items i (Some total) None within is name,
  );
}

-- an agent enters
pub has_entered : (k m : CountedShares) (i : ℕ) (total : List Row) → i < length k.owned.items → None ≡ get_or k.owned.items i None → m.shares ≡ entered total k.shares → m.found ≡ k.found → m.owned.items ≡ set k.owned.items i (Some total)
    → StayCounted k m
has_entered k m i total within is shares found owned cs a = record {
  once = a.once;
  shown = same_shown k m cs (entered total k.shares) shares refl refl found a.shown;
  owned = λ name. omega (
    arith,
    ap (λ (t : Tally). amount name t.totals) shares,
    sums_add_up k.shares.totals total name,
    a.owned name,
    ap (λ (os : List Owned). amount name (all_owned os)) owned,
    owned_at k.owned.items i None (Some total) within is name,
  );
}

-- where what is owned then can be summed
pub can_enter : (totals : List Row) (os : List Owned) (i : ℕ) (total : List Row) → i < length os → None ≡ get_or os i None → SameAmounts totals (all_owned os) → AddUp (all_owned (set os i (Some total))) → CanAdd totals total
can_enter totals os i total within is same up name = omega (arith, same name, up name, owned_at os i None (Some total) within is name)

-- up to date

next_left : (ss : List Side) (os : List Owned) (i : ℕ) (s : Side) (o : Owned) → i < length ss → i < length os → s ≡ get_or ss i s → IsUpToDate s o → AreUpToDate (take i ss) (take i os) → AreUpToDate (take (suc i) ss) (take (suc i) (set os i o))
next_left [] os i s o inside within is own are = absurd (omega arith)
next_left (r ∷ ss) [] i s o inside within is own are = absurd (omega arith)
next_left (r ∷ ss) (q ∷ os) zero s o inside within is own are = (subst (λ (x : Side). IsUpToDate x o) is own, tt)
next_left (r ∷ ss) (q ∷ os) (suc i) s o inside within is own are = (are.0, next_left ss os i s o (omega arith) (omega arith) is own are.1)

pub left_more : (ss : List Side) (os ps : List Owned) (i : ℕ) (s : Side) → i < length ss → i < length os → s ≡ get_or ss i s → LeavesAt i s os ps → AreUpToDate (take i ss) (take i os) → AreUpToDate (take (i + 1) ss) (take (i + 1) ps)
left_more ss os ps i s inside within is at are =
    subst (λ (qs : List Owned). AreUpToDate (take (i + 1) ss) (take (i + 1) qs)) (sym at.1)
    (subst (λ n. AreUpToDate (take n ss) (take n (set os i at.0))) one (next_left ss os i s at.0 inside within is at.2 are))
  where
    one : suc i ≡ i + 1
    one = omega arith

pub left_at : (ss : List Side) (os : List Owned) (i : ℕ) (s : Side) → i < length ss → s ≡ get_or ss i s → AreUpToDate ss os → IsUpToDateAt i s os
left_at [] os i s inside is are o at = absurd (omega arith)
left_at (r ∷ ss) [] i s inside is are o at = absurd are
left_at (r ∷ ss) (q ∷ os) zero s inside is are o at = subst (λ (x : Owned). IsUpToDate s x) (sym at) (subst (λ (x : Side). IsUpToDate x q) (sym is) are.0)
left_at (r ∷ ss) (q ∷ os) (suc i) s inside is are o at = left_at ss os i s (omega arith) is are.1 o at

pub left_set : (ss : List Side) (os : List Owned) (i : ℕ) (s : Side) → i < length ss → s ≡ get_or ss i s → AreUpToDate ss os → AreUpToDate ss (set os i (owned_of s))
left_set [] os i s inside is are = absurd (omega arith)
left_set (r ∷ ss) [] i s inside is are = absurd are
left_set (r ∷ ss) (q ∷ os) zero s inside is are = (inr (ap owned_of is), are.1)
left_set (r ∷ ss) (q ∷ os) (suc i) s inside is are = (are.0, left_set ss os i s (omega arith) is are.1)

pub left_below : (ss : List Side) (os : List Owned) → AreUpToDate ss os → (name : List ℕ) → amount name (all_owned os) ≤ amount name (totals_in ss)
left_below [] [] are name = omega arith
left_below [] (o ∷ os) are name = absurd are
left_below (s ∷ ss) [] are name = absurd are
left_below (s ∷ ss) (o ∷ os) are name = by are.0 (left_below ss os are.1 name)
  where
    by : IsUpToDate s o → amount name (all_owned os) ≤ amount name (totals_in ss) → amount name (rows_owned o ++ all_owned os) ≤ amount name (rows_owned (owned_of s) ++ totals_in ss)
    by (inl none) ih =
        omega (arith, ih, ap (λ (x : Owned). amount name (rows_owned x)) none, amount-append name (rows_owned o) (all_owned os), amount-append name (rows_owned (owned_of s)) (totals_in ss))
    by (inr own) ih =
        omega (arith, ih, ap (λ (x : Owned). amount name (rows_owned x)) own, amount-append name (rows_owned o) (all_owned os), amount-append name (rows_owned (owned_of s)) (totals_in ss))

next_entered : (ss : List Side) (os : List Owned) (i : ℕ) (s : Side) → i < length ss → i < length os → s ≡ get_or ss i s → take i os ≡ take i (each_owned ss) → take (suc i) (set os i (owned_of s)) ≡ take (suc i) (each_owned ss)
next_entered [] os i s inside within is same = absurd (omega arith)
next_entered (r ∷ ss) [] i s inside within is same = absurd (omega arith)
next_entered (r ∷ ss) (q ∷ os) zero s inside within is same = ap (λ (x : Side). owned_of x ∷ []) is
next_entered (r ∷ ss) (q ∷ os) (suc i) s inside within is same =
    let both : (q ≡ owned_of r) × (take i os ≡ take i (each_owned ss)) = (cc, cc) in
    ap (λ (x : Owned). x ∷ take (suc i) (set os i (owned_of s))) both.0
    ∙ ap (λ (xs : List Owned). owned_of r ∷ xs) (next_entered ss os i s (omega arith) (omega arith) is both.1)

pub entered_more : (ss : List Side) (os : List Owned) (i : ℕ) (s : Side) → i < length ss → i < length os → s ≡ get_or ss i s → take i os ≡ take i (each_owned ss) → take (i + 1) (set os i (owned_of s)) ≡ take (i + 1) (each_owned ss)
entered_more ss os i s inside within is same = subst (λ n. take n (set os i (owned_of s)) ≡ take n (each_owned ss)) one (next_entered ss os i s inside within is same)
  where
    one : suc i ≡ i + 1
    one = omega arith

-- the agent at a place

pub got : {X : Type 0} (xs : List X) (i : ℕ) (x : X) → slice_get xs i ≡ Some x → (i < length xs) × (x ≡ get_or xs i x)
got [] i x is = absurd (let none : None ≡ Some x = is in cc)
got (y ∷ xs) zero x is = (omega arith, let both : Some y ≡ Some x = is in cc)
got (y ∷ xs) (suc i) x is = let rest = got xs i x is in (omega (arith, rest.0), rest.1)

pub not_got : {X : Type 0} (xs : List X) (i : ℕ) → i < length xs → slice_get xs i ≡ None → ⊥
not_got [] i within is = absurd (omega arith)
not_got (y ∷ xs) zero within is = absurd (let some : Some y ≡ None = is in cc)
not_got (y ∷ xs) (suc i) within is = not_got xs i (omega arith) is

pub owned_many : (ss : List Side) → length (each_owned ss) ≡ length ss
owned_many [] = refl
owned_many (s ∷ ss) = ap suc (owned_many ss)

-- what is owned together is what the model says
abbrev pub owned_rows : List Side → List Row
owned_rows ss = flat_map (λ s. cond s.is_open s.total []) ss

pub totals_alike : (ss : List Side) → totals_in ss ≡ owned_rows ss
totals_alike [] = refl
totals_alike (s ∷ ss) = by s.is_open (totals_alike ss)
  where
    by : (b : Bool) → totals_in ss ≡ owned_rows ss → rows_owned (cond b (Some s.total) None) ++ totals_in ss ≡ cond b s.total [] ++ owned_rows ss
    by true ih = ap (λ rows. s.total ++ rows) ih
    by false ih = ih

-- one that stays as it is

some_is_none : {X : Type 0} (x : X) → Some x ≡ None → ⊥
some_is_none x e = absurd cc

pub stays_closed : (s : Side) (os : List Owned) (i : ℕ) → i < length os → s.is_open ≡ false → IsUpToDateAt i s os → os ≡ set os i (owned_of s)
stays_closed s [] i within closed up = absurd (omega arith)
stays_closed s (q ∷ os) zero within closed up = ap (λ (x : Owned). x ∷ os) (by (up q refl))
  where
    by : IsUpToDate s q → q ≡ owned_of s
    by (inl none) = none ∙ sym (ap (λ b. cond b (Some s.total) None) closed)
    by (inr own) = own
stays_closed s (q ∷ os) (suc i) within closed up = ap (λ (xs : List Owned). q ∷ xs) (stays_closed s os i (omega arith) closed up)

pub stays_some : (s : Side) (os : List Owned) (i : ℕ) (o : Owned) → i < length os → o ≡ get_or os i o → is_some o ≡ true → IsUpToDateAt i s os → os ≡ set os i (owned_of s)
stays_some s os i None within is some up = absurd (let m : false ≡ true = some in cc)
stays_some s os i (Some rows) within is some up = by (up (Some rows) is)
  where
    by : IsUpToDate s (Some rows) → os ≡ set os i (owned_of s)
    by (inl none) = absurd (some_is_none rows none)
    by (inr own) = set_same os i (Some rows) within is ∙ ap (set os i) own

pub none_at : (os : List Owned) (i : ℕ) (o : Owned) → o ≡ get_or os i o → is_some o ≡ false → None ≡ get_or os i None
none_at os i None is none = is
none_at os i (Some rows) is none = absurd (let m : true ≡ false = none in cc)

pub left_many : (ss : List Side) (os : List Owned) → AreUpToDate ss os → length os ≡ length ss
left_many [] [] are = refl
left_many [] (o ∷ os) are = absurd are
left_many (s ∷ ss) [] are = absurd are
left_many (s ∷ ss) (o ∷ os) are = ap suc (left_many ss os are.1)
