-- What reading answers: the first fault, or what was read.
use Rattle.std.specs.Prelude.{◌≡◌, Result, Ok, Err}
use Rattle.call_json.specs.declared.members.fault.Refusal.{Refusal}
use Rattle.call_json.specs.declared.members.fault.CallFault.{CallFault}
use Rattle.call_json.specs.declared.members.fault.CallFault.TheVariants as faults

-- the first refusal, or what comes next
infixl 10 ◌>>=◌
abbrev pub ◌>>=◌ : {A B : Type 0} → Result A Refusal → (A → Result B Refusal) → Result B Refusal
(Ok x) >>= f = f x
(Err e) >>= f = Err e

-- a fault is the refusal that is due, unless memory ran out
abbrev pub Fails : {A : Type 0} → CallFault → Result A Refusal → Type 0
Fails faults.OutOfMemory due = Unit {0}
Fails (faults.Refused refusal) due = due ≡ Err refusal

-- what a function answered, seen by v, is what is due, unless memory ran out
abbrev pub Gives : {X A : Type 0} → (X → A) → Result X CallFault → Result A Refusal → Type 0
Gives v (Ok x) due = due ≡ Ok (v x)
Gives v (Err e) due = Fails e due
