-- The status that the program ends with.
use Rattle.std.specs.Prelude.{◌≡◌, ◌⊎◌, ℕ, Bool, if◌then◌else◌}
use Rattle.std.specs.declared.io.ErrorKind as io
use Rattle.std.specs.declared.io.ErrorKind.TheVariants as unread
use Rattle.clap.specs.declared.error.kind.ErrorKind.{ErrorKind}
use Rattle.clap.specs.declared.error.kind.ErrorKind.TheVariants as kind

-- of a fault: 2 where the input is refused, 3 where memory, a store or a device failed
abbrev pub status_of_fault : Bool → ℕ
status_of_fault is_refusal = if is_refusal then 2 else 3

-- 0 where the work ended, 2 where its input was refused, 3 where memory,
-- the input or the output failed
abbrev pub IsStatus : ℕ → Type 0
IsStatus n = (n ≡ 0) ⊎ ((n ≡ 2) ⊎ (n ≡ 3))

-- where the words of the command line name no action: 0 where they ask for help,
-- 3 where memory was refused, 2 where they are wrong
abbrev pub status_of_kind : ErrorKind → ℕ
status_of_kind kind.DisplayHelp = 0
status_of_kind kind.DisplayVersion = 0
status_of_kind kind.OutOfMemory = 3
status_of_kind k = 2

-- where the words of the command line can't be had: 2 where one isn't UTF-8,
-- 3 where memory was refused
abbrev pub status_of_unread : io.ErrorKind → ℕ
status_of_unread unread.InvalidData = 2
status_of_unread k = 3
