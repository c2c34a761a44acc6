-- Which texts name a resource.
use Rattle.std.specs.Prelude.{ℕ, Bool, ◌&&◌, ◌==◌, not, nat_lt, nat_le, if◌then◌else◌, List, length, Result, Ok, Err}
use Rattle.std.specs.List.{list_all}
use Rattle.quantity.specs.declared.fault.QuantityFault.{QuantityFault}
use Rattle.quantity.specs.declared.fault.QuantityFault.TheVariants.{BadName}

-- a byte of a name is no control character, no space and no slash of either kind
abbrev pub is_name_byte : ℕ → Bool
is_name_byte b = nat_lt 32 b && not (b == 127) && not (b == 47) && not (b == 92)

-- a name is 1 to 64 such bytes
abbrev pub is_resource_name : List ℕ → Bool
is_resource_name text =
    nat_lt 0 (length text) && nat_le (length text) 64 && list_all is_name_byte text

-- the name that a text is
abbrev pub name_of : List ℕ → Result (List ℕ) QuantityFault
name_of text = if is_resource_name text then Ok text else Err BadName
