-- What an answer leaves, and when a pass accounts for the entries of its seat.
use Rattle.std.proofs.Common.{◌≡◌, ◌⊎◌, ◌<◌, ◌≤◌, Bool, true, false, inl, inr, refl, ℕ, ◌+◌, List, [], ◌∷◌, ◌++◌, sym, ap, ◌∙◌, subst, arith, length, length-append, Some, ◌-◌}
use Rattle.std.specs.Prelude.{slice_get}
use Rattle.std.proofs.Math.Seq.{get_or-append_seam}
use Rattle.std.proofs.lemmas.List.{map-append}
use Rattle.std.proofs.lemmas.Option.{slice_get-get_or}
use Rattle.std.proofs.lemmas.Bool.{cases_lt}
use Rattle.desk_core.specs.Refused.{IsForeign, MayRefuseApply, MayRefuseCall, MayRefuseStep, refused_by}
use Rattle.desk_core.specs.declared.fault.FaultKind.{FaultKind}
use Rattle.desk_core.specs.declared.fault.FaultKind.TheVariants.{HistoryFull as FullHistory, OutOfMemory as NoMemory, Step}
use Rattle.desk_core.specs.declared.fault.OfficeFault.{OfficeFault}
use Rattle.desk_core.specs.declared.fault.OfficeFault.TheVariants.{ForeignPass}
use Rattle.desk_core.specs.declared.desk.pass.Receipt.{Receipt}
use Rattle.desk_core.specs.Receipts.{PassState, StandsIn, numbered, with_receipt}
use Rattle.desk_core.specs.Seats.{Numbered, entries_of}
use Rattle.desk_core.specs.Walked.{Rises}
use Rattle.desk_core.proofs.Rows.{seat_count, entries_pushed}
use Rattle.desk_core.proofs.Walks.{fits, whole}

abbrev pub pass_of : {E : Type 0} → ℕ → ℕ → List (Receipt E) → PassState E
pass_of seat seen rs = record { seat = seat; seen = seen; receipts = rs }

-- a pass with one receipt more
pub pushed_is : {E : Type 0} (p : PassState E) (seat seen next : ℕ) (rs now : List (Receipt E)) (r : Receipt E) → pass_of seat seen rs ≡ p → now ≡ rs ++ r ∷ [] → next ≡ r.number + 1
    → pass_of seat next now ≡ with_receipt p r
pushed_is {E} p seat seen next rs now r was more later =
    let P : PassState E → Type 0 = λ q. pass_of seat next now ≡ with_receipt q r in
    subst P was (ap (λ (xs : List (Receipt E)). pass_of seat next xs) more ∙ ap (λ (n : ℕ). pass_of seat n (rs ++ r ∷ [])) later)

-- a pass whose receipts were its seat's entries, after one more of both
pub stands_more : {E : Type 0} (history more : List E) (seats longer : List ℕ) (p q : PassState E) (r : Receipt E) → StandsIn history seats p
    → length seats ≡ length history → longer ≡ seats ++ p.seat ∷ [] → more ≡ history ++ r.entry ∷ [] → r.number ≡ length history + 1 → q ≡ with_receipt p r
    → StandsIn more longer q
stands_more {E} history more seats longer p q r was level s h n is =
    let P : PassState E → Type 0 = λ x. StandsIn more longer x in
    let at : numbered r ≡ record { number = 1 + length history; entry = r.entry } = ap (λ k. record { number = k; entry = r.entry }) (let e : r.number ≡ 1 + length history = omega arith in e) in
    let one : List (Numbered E) = record { number = 1 + length history; entry = r.entry } ∷ [] in
    subst P (sym is) (
    map-append numbered p.receipts (r ∷ [])
    ∙ ap (λ (xs : List (Numbered E)). xs ++ numbered r ∷ []) was
    ∙ ap (λ (x : Numbered E). entries_of p.seat 1 seats history ++ x ∷ []) at
    ∙ sym (entries_pushed p.seat 1 seats history r.entry level)
    ∙ ap (λ (xs : List ℕ). entries_of p.seat 1 xs (history ++ r.entry ∷ [])) (sym s)
    ∙ ap (λ (es : List E). entries_of p.seat 1 longer es) (sym h)
    )

-- a pass whose receipts rise and are as many as its seat's entries accounts for these, and no other does
pub accounts_yes : {E : Type 0} (history : List E) (seats : List ℕ) (p : PassState E) → length seats ≡ length history → length p.receipts ≡ seat_count p.seat seats
    → Rises p.seat 0 seats history 0 p.receipts → StandsIn history seats p
accounts_yes history seats p level as_many rise = (fits p.seat 0 seats history p.receipts level rise).all as_many

pub accounts_rise : {E : Type 0} (history : List E) (seats : List ℕ) (p : PassState E) → length seats ≡ length history → StandsIn history seats p
    → Rises p.seat 0 seats history 0 p.receipts
accounts_rise history seats p level stands = (whole p.seat 0 seats history p.receipts level stands).rise

pub accounts_as_many : {E : Type 0} (history : List E) (seats : List ℕ) (p : PassState E) → length seats ≡ length history → StandsIn history seats p
    → length p.receipts ≡ seat_count p.seat seats
accounts_as_many history seats p level stands = (whole p.seat 0 seats history p.receipts level stands).as_many

-- the same over what the walk was over
pub rises_as : {E : Type 0} (history es : List E) (seats ss : List ℕ) (p : PassState E) (rs : List (Receipt E)) (seat : ℕ) → es ≡ history → ss ≡ seats → rs ≡ p.receipts → seat ≡ p.seat
    → Rises seat 0 ss es 0 rs → Rises p.seat 0 seats history 0 p.receipts
rises_as {E} history es seats ss p rs seat he hs hr seat_is h =
    subst (λ (s : ℕ). Rises s 0 seats history 0 p.receipts) seat_is
    (subst (λ (xs : List ℕ). Rises seat 0 xs history 0 p.receipts) hs
    (subst (λ (ys : List E). Rises seat 0 ss ys 0 p.receipts) he
    (subst (λ (zs : List (Receipt E)). Rises seat 0 ss es 0 zs) hr h)))

pub rises_from : {E : Type 0} (history es : List E) (seats ss : List ℕ) (p : PassState E) (rs : List (Receipt E)) (seat : ℕ) → es ≡ history → ss ≡ seats → rs ≡ p.receipts → seat ≡ p.seat
    → Rises p.seat 0 seats history 0 p.receipts → Rises seat 0 ss es 0 rs
rises_from {E} history es seats ss p rs seat he hs hr seat_is h =
    subst (λ (zs : List (Receipt E)). Rises seat 0 ss es 0 zs) (sym hr)
    (subst (λ (ys : List E). Rises seat 0 ss ys 0 p.receipts) (sym he)
    (subst (λ (xs : List ℕ). Rises seat 0 xs history 0 p.receipts) (sym hs)
    (subst (λ (s : ℕ). Rises s 0 seats history 0 p.receipts) (sym seat_is) h)))

-- what was pushed last is the last
pub last_is : {A : Type 0} (xs ys : List A) (y : A) → xs ≡ ys ++ y ∷ [] → slice_get xs (length xs - 1) ≡ Some y
last_is {A} xs ys y is =
    let long : length xs ≡ length ys + 1 = let e = ap length is in let l = length-append ys (y ∷ []) in omega arith in
    let at : length xs - 1 ≡ length ys = omega arith in
    ap (λ k. slice_get xs k) at
    ∙ ap (λ (zs : List A). slice_get zs (length ys)) is
    ∙ slice_get-get_or (ys ++ y ∷ []) (length ys) y (let l = length-append ys (y ∷ []) in omega arith)
    ∙ ap Some (get_or-append_seam ys y [] y)

-- a pass that isn't foreign has seen no more than there is, and its seat is opened
pub not_foreign : (b : Bool) (entries opened seat seen : ℕ) → b ≡ false → (IsForeign entries opened seat seen → b ≡ true) → (seen ≤ entries) × (seat ≤ opened)
not_foreign b entries opened seat seen off is = (seen_by (cases_lt entries seen), seated_by (cases_lt opened seat))
  where
    seen_by : (entries < seen) ⊎ (seen ≤ entries) → seen ≤ entries
    seen_by (inl more) = absurd (let clash : true ≡ false = sym (is (inr more)) ∙ off in cc)
    seen_by (inr within) = within

    seated_by : (opened < seat) ⊎ (seat ≤ opened) → seat ≤ opened
    seated_by (inl above) = absurd (let clash : true ≡ false = sym (is (inl (inr above))) ∙ off in cc)
    seated_by (inr within) = within

-- a foreign pass is refused
pub foreign_refused : {F : Type 0} (kind : F → FaultKind) (may_refuse : F → Type 0) (entries opened seat seen : ℕ) (fault : OfficeFault F) → fault ≡ ForeignPass entries → IsForeign entries opened seat seen
    → MayRefuseCall kind may_refuse entries opened seat seen fault
foreign_refused {F} kind may_refuse entries opened seat seen fault is (inl unopened) = subst (λ (f : OfficeFault F). MayRefuseCall kind may_refuse entries opened seat seen f) (sym is) (inl (refl, unopened))
foreign_refused {F} kind may_refuse entries opened seat seen fault is (inr later) = inr (is, later)

refused_at : {F : Type 0} (kind : F → FaultKind) (may_refuse : F → Type 0) (entries opened seat : ℕ) (fault : F) (k : FaultKind) → kind fault ≡ k → MayRefuseApply kind may_refuse fault
    → MayRefuseStep kind may_refuse entries opened seat (refused_by k fault)
refused_at kind may_refuse entries opened seat fault FullHistory is (inl h) = (fault, h, is)
refused_at kind may_refuse entries opened seat fault FullHistory is (inr e) = absurd (let clash : FullHistory ≡ NoMemory = sym is ∙ e in cc)
refused_at kind may_refuse entries opened seat fault NoMemory is h = tt
refused_at kind may_refuse entries opened seat fault Step is (inl h) = (h, is)
refused_at kind may_refuse entries opened seat fault Step is (inr e) = absurd (let clash : Step ≡ NoMemory = sym is ∙ e in cc)

-- a step that isn't taken is refused so by an office
pub step_refused : {F : Type 0} (kind : F → FaultKind) (may_refuse : F → Type 0) (entries opened seat seen : ℕ) (fault : F) (out : OfficeFault F) → out ≡ refused_by (kind fault) fault → MayRefuseApply kind may_refuse fault
    → MayRefuseCall kind may_refuse entries opened seat seen out
step_refused {F} kind may_refuse entries opened seat seen fault out is h =
    subst (λ (f : OfficeFault F). MayRefuseCall kind may_refuse entries opened seat seen f) (sym is) (inl (refused_at kind may_refuse entries opened seat fault (kind fault) refl h))
