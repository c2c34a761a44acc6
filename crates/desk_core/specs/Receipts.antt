-- Receipts, and what answers leave.
use Rattle.std.specs.Prelude.{◌≡◌, ℕ, ◌+◌, ◌≤◌, ◌<◌, List, [], ◌∷◌, ◌++◌, length, map}
use Rattle.desk_core.specs.declared.desk.pass.Answered.{Answered}
use Rattle.desk_core.specs.declared.desk.pass.Receipt.{Receipt}
use Rattle.desk_core.specs.Seats.{DeskState, Numbered, entries_of}

-- a pass: its seat, how much of the history it has seen, and its receipts
pub record PassState (E : Type 0) : Type 0 where
  pub seat : ℕ
  pub seen : ℕ
  pub receipts : List (Receipt E)

-- one receipt more, up to whose entry the pass has then seen
abbrev pub with_receipt : {E : Type 0} → PassState E → Receipt E → PassState E
with_receipt p r = record { seat = p.seat; seen = r.number + 1; receipts = p.receipts ++ r ∷ [] }

-- the entry of a receipt, with its number
abbrev pub numbered : {E : Type 0} → Receipt E → Numbered E
numbered r = record { number = r.number; entry = r.entry }

-- the receipts of a pass are the entries of its seat, each once and in order
abbrev pub StandsIn : {E : Type 0} → List E → List ℕ → PassState E → Type 0
StandsIn history seats p = map numbered p.receipts ≡ entries_of p.seat 1 seats history

-- a step was answered by a receipt that the pass has got,
-- whose number is at least all that the pass had seen
pub record AnswersBy {S E : Type 0} (step_of : E → S) (old new : PassState E) (step : S)
    (r : Receipt E) : Type 0 where
  pub of_step : step_of r.entry ≡ step
  pub later : old.seen ≤ r.number
  pub pushed : new ≡ with_receipt old r

-- a receipt is of one more entry, of this seat, after all others
pub record Enters {C E : Type 0} (history : C → List E) (old : DeskState C) (seat : ℕ)
    (r : Receipt E) (new : DeskState C) : Type 0 where
  pub entry : history new.recorded ≡ history old.recorded ++ r.entry ∷ []
  pub seated : new.seats ≡ old.seats ++ seat ∷ []
  pub number : r.number ≡ length (history old.recorded) + 1

-- a step was taken for a seat that had seen so much, and its answer can be counted
pub record IsEntered {C S E G : Type 0} (history : C → List E) (step_of : E → S)
    (takes : C → S → E → G → C → Type 0) (old : DeskState C) (seat seen : ℕ) (step : S)
    (a : Answered E G) (new : DeskState C) : Type 0 where
  pub enters : Enters history old seat a.receipt new
  pub of_step : step_of a.receipt.entry ≡ step
  pub taken : takes old.recorded step a.receipt.entry a.given new.recorded
  pub later : seen ≤ a.receipt.number
  pub level : length old.seats ≡ length (history old.recorded)
  pub spare : new.total < length (history new.recorded)

-- nothing was entered
pub record Unchanged {C E : Type 0} (history : C → List E) (alike : C → C → Type 0)
    (old new : DeskState C) : Type 0 where
  pub entries : history new.recorded ≡ history old.recorded
  pub same : alike old.recorded new.recorded
  pub seats : new.seats ≡ old.seats
  pub total : new.total ≡ old.total

-- in a sound state the step was taken: its entry is one more, after all others,
-- under the receipt's number, and this was returned with it
pub record IsTaken {C S E G : Type 0} (history : C → List E) (sound : C → Type 0)
    (takes : C → S → E → G → C → Type 0) (step : S) (a : Answered E G) : Type 0 where
  pub old : C
  pub new : C
  pub is_sound : sound old
  pub taken : takes old step a.receipt.entry a.given new
  pub entered : history new ≡ history old ++ a.receipt.entry ∷ []
  pub number : a.receipt.number ≡ length (history old) + 1

-- a step was answered: in a sound state it was taken, and the pass has got the receipt
pub record IsAnswered {C S E G : Type 0} (history : C → List E) (sound : C → Type 0)
    (step_of : E → S) (takes : C → S → E → G → C → Type 0) (old new : PassState E) (step : S)
    (a : Answered E G) : Type 0 where
  pub answers : AnswersBy step_of old new step a.receipt
  pub is_taken : IsTaken history sound takes step a
