-- Texts of names.
use Rattle.std.specs.Prelude.{ℕ, List, codes, string_bytes}
use Rattle.quantity.specs.declared.name.Text.{Text}
use Rattle.quantity.specs.declared.name.Text.TheVariants.{Cpus, Mem, Disk, Gpus, Other}

-- the bytes of a text
abbrev pub bytes_of : Text → List ℕ
bytes_of Cpus = codes "cpus"
bytes_of Mem = codes "mem"
bytes_of Disk = codes "disk"
bytes_of Gpus = codes "gpus"
bytes_of (Other text) = string_bytes text
