use Rattle.std.proofs.Common.{◌≡◌, true, min, take}
use Rattle.std.specs.List.{list_all}
use Rattle.std.specs.Char.{is_ascii_digit}
use Rattle.std.specs.Str.Parse.{digits_value}
use Rattle.http_head.proofs.fields.sized_by.Given as goal

abbrev pub invariant-loop-byte : goal.invariant-loop-byte
invariant-loop-byte l = (l.n ≡ min (digits_value 10 (take l.byte-index l.text)) 1048577) × (list_all is_ascii_digit (take l.byte-index l.text) ≡ true)
