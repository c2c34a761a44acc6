-- Refusals.
use Rattle.std.specs.Prelude.{◌≡◌, ◌⊎◌, ◌<◌, ℕ, ⊤}
use Rattle.desk_core.specs.declared.fault.FaultKind.{FaultKind}
use Rattle.desk_core.specs.declared.fault.FaultKind.TheVariants.{HistoryFull as FullHistory, OutOfMemory as NoMemory, Step}
use Rattle.desk_core.specs.declared.fault.OfficeFault.{OfficeFault}
use Rattle.desk_core.specs.declared.fault.OfficeFault.TheVariants.{ForeignPass, HistoryFull, OutOfMemory, Core, SeatsSpent}

-- with which fault an office refuses for the fault of a refused step
abbrev pub refused_by : {F : Type 0} → FaultKind → F → OfficeFault F
refused_by FullHistory fault = HistoryFull
refused_by NoMemory fault = OutOfMemory
refused_by Step fault = Core fault

-- no seat of this number was opened
abbrev pub IsUnopened : ℕ → ℕ → Type 0
IsUnopened opened seat = (seat ≡ 0) ⊎ (opened < seat)

-- why a step isn't taken: it is refused, or memory is
abbrev pub MayRefuseApply : {F : Type 0} → (F → FaultKind) → (F → Type 0) → F → Type 0
MayRefuseApply kind may_refuse fault = may_refuse fault ⊎ (kind fault ≡ NoMemory)

-- why a step of a seat is refused, where the history has so many entries with its opening:
-- the seat wasn't opened, memory was refused, or the step was
abbrev pub MayRefuseStep : {F : Type 0} → (F → FaultKind) → (F → Type 0) → ℕ → ℕ → ℕ → OfficeFault F
    → Type 0
MayRefuseStep kind may_refuse entries opened seat (ForeignPass n) =
    (n ≡ entries) × IsUnopened opened seat
MayRefuseStep {F} kind may_refuse entries opened seat HistoryFull =
    (fault : F) × may_refuse fault × (kind fault ≡ FullHistory)
MayRefuseStep kind may_refuse entries opened seat OutOfMemory = ⊤
MayRefuseStep kind may_refuse entries opened seat (Core fault) =
    may_refuse fault × (kind fault ≡ Step)
MayRefuseStep kind may_refuse entries opened seat SeatsSpent = ⊥

-- why a call of a pass is refused: as a step of its seat, or it has seen more than there is
abbrev pub MayRefuseCall : {F : Type 0} → (F → FaultKind) → (F → Type 0) → ℕ → ℕ → ℕ → ℕ
    → OfficeFault F → Type 0
MayRefuseCall kind may_refuse entries opened seat seen fault =
    MayRefuseStep kind may_refuse entries opened seat fault
    ⊎ ((fault ≡ ForeignPass entries) × (entries < seen))

-- a pass is of a seat that wasn't opened, or it has seen more than there is
abbrev pub IsForeign : ℕ → ℕ → ℕ → ℕ → Type 0
IsForeign entries opened seat seen = IsUnopened opened seat ⊎ (entries < seen)

-- why a wait of a pass ends in a fault, where the history has so many entries with its opening:
-- the pass is foreign, or a look returns a fault
abbrev pub MayRefuseWait : {F : Type 0} → (F → FaultKind) → (F → Type 0) → ℕ → ℕ → ℕ → ℕ
    → OfficeFault F → Type 0
MayRefuseWait {F} kind gives entries opened seat seen fault =
    ((fault ≡ ForeignPass entries) × IsForeign entries opened seat seen)
    ⊎ ((f : F) × gives f × (fault ≡ refused_by (kind f) f))

-- why no seat is opened: there are 4,294,967,295, or there are fewer, and memory was refused
abbrev pub MayRefuseSeat : {F : Type 0} → ℕ → OfficeFault F → Type 0
MayRefuseSeat opened OutOfMemory = opened < 4294967295
MayRefuseSeat opened SeatsSpent = opened ≡ 4294967295
MayRefuseSeat opened (ForeignPass n) = ⊥
MayRefuseSeat opened HistoryFull = ⊥
MayRefuseSeat opened (Core fault) = ⊥
