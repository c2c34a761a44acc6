-- Which refusal is returned.
use Rattle.std.specs.Prelude.{◌≡◌, Result, Err}
use Rattle.std.specs.Result.{IsOk}
use Rattle.offer_tables.specs.declared.fault.BookFault.{BookFault}
use Rattle.offer_tables.specs.declared.fault.BookFault.TheVariants.{Unknown, NoRoom, Twice, OutOfMemory}

-- the refusal is the one of the answer that was due; memory is refused only where none is due
abbrev pub IsRefusal : {T : Type 0} → BookFault → Result T BookFault → Type 0
IsRefusal Unknown due = due ≡ Err Unknown
IsRefusal NoRoom due = due ≡ Err NoRoom
IsRefusal Twice due = due ≡ Err Twice
IsRefusal OutOfMemory due = IsOk due

-- the refusal is the one of the answer that was due
abbrev pub IsDue : {T : Type 0} → Result T BookFault → BookFault → Type 0
IsDue due fault = due ≡ Err fault
