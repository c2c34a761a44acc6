-- A desk as a caller who locks it finds it.
use Rattle.std.specs.Prelude.{◌≡◌, ◌≤◌, ◌<◌, ◌+◌, List, [], length}
use Rattle.desk_core.specs.Receipts.{PassState}
use Rattle.desk_core.specs.Refused.{MayRefuseCall, MayRefuseSeat, MayRefuseWait}
use Rattle.desk_core.specs.declared.fault.FaultKind.{FaultKind}
use Rattle.desk_core.specs.declared.fault.OfficeFault.{OfficeFault}
use Rattle.desk_core.specs.Seats.{DeskState}

-- what it records is sound, each entry has a seat,
-- and no more answers are counted than there are entries
pub record IsFound {C E : Type 0} (history : C → List E) (sound : C → Type 0)
    (d : DeskState C) : Type 0 where
  pub is_sound : sound d.recorded
  pub seated : length d.seats ≡ length (history d.recorded)
  pub counted : d.total ≤ length (history d.recorded)

-- a pass is of its count: the answers that the pass holds are among those that are counted
abbrev pub Counts : {C E : Type 0} → DeskState C → PassState E → Type 0
Counts d p = length p.receipts ≤ d.total

-- some desk, of whose count the pass is, refuses this step of the pass so
abbrev pub IsRefusedCall : {C E S F : Type 0} → (C → List E) → (C → Type 0) → (F → FaultKind)
    → (C → S → F → Type 0) → PassState E → S → OfficeFault F → Type 0
IsRefusedCall {C} {F = F} history sound kind may_refuse p step fault =
    (d : DeskState C) × IsFound history sound d × Counts d p
    × MayRefuseCall kind (λ (f : F). may_refuse d.recorded step f) (length (history d.recorded) + 1)
    d.opened p.seat p.seen fault

-- some desk ends a wait of the pass so, where a look returns such faults in a state
abbrev pub IsRefusedWait : {C E F : Type 0} → (C → List E) → (C → Type 0) → (F → FaultKind)
    → (C → F → Type 0) → PassState E → OfficeFault F → Type 0
IsRefusedWait {C} {F = F} history sound kind gives p fault =
    (d : DeskState C) × IsFound history sound d
    × MayRefuseWait kind (λ (f : F). gives d.recorded f) (length (history d.recorded) + 1) d.opened
    p.seat p.seen fault

-- some desk gives its next seat so: of fewer than 4,294,967,295 that were opened it is the next one,
-- which has seen nothing and has no receipts
pub record IsNextSeat {C E : Type 0} (history : C → List E) (sound : C → Type 0)
    (p : PassState E) : Type 0 where
  pub desk : DeskState C
  pub is_found : IsFound history sound desk
  pub fewer : desk.opened < 4294967295
  pub next : p ≡ record { seat = desk.opened + 1; seen = 0; receipts = [] }

-- some desk opens no seat so
pub record IsRefusedSeat {C E F : Type 0} (history : C → List E) (sound : C → Type 0)
    (fault : OfficeFault F) : Type 0 where
  pub desk : DeskState C
  pub is_found : IsFound history sound desk
  pub refused : MayRefuseSeat desk.opened fault
