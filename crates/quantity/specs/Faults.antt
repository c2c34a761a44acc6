-- When a refusal is the one that is due.
use Rattle.std.specs.Prelude.{◌≡◌, Result, Err}
use Rattle.quantity.specs.declared.fault.QuantityFault.{QuantityFault}
use Rattle.quantity.specs.declared.fault.QuantityFault.TheVariants.{OutOfMemory, TooLarge, NotCovered, TooManyNames, BadName}

-- the refusal is the one of the answer that was due, or memory was refused
abbrev pub IsRefusal : {T : Type 0} → QuantityFault → Result T QuantityFault → Type 0
IsRefusal OutOfMemory due = Unit {0}
IsRefusal TooLarge due = due ≡ Err TooLarge
IsRefusal NotCovered due = due ≡ Err NotCovered
IsRefusal TooManyNames due = due ≡ Err TooManyNames
IsRefusal BadName due = due ≡ Err BadName
