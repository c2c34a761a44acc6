-- Names of roles, tasks and agents, as bytes of UTF-8.
use Rattle.std.specs.Prelude.{ℕ, ◌+◌, ◌*◌, ◌%◌, ◌^◌, List, [], ◌∷◌, Bool, true, false, not, length, fold, ◌&&◌, ◌||◌, ◌==◌, nat_lt, nat_le}
use Rattle.std.specs.List.{list_all}
use Rattle.std.specs.Char.{is_ascii_alphanumeric}

-- no control character, no space, no backslash
abbrev pub is_role_byte : ℕ → Bool
is_role_byte b = nat_lt 32 b && not (b == 127) && not (b == 92)

-- and no slash
abbrev pub is_name_byte : ℕ → Bool
is_name_byte b = is_role_byte b && not (b == 47)

-- an ASCII letter or digit, `-`, `_` or `.`
abbrev pub is_configured_byte : ℕ → Bool
is_configured_byte b = is_ascii_alphanumeric b || b == 45 || b == 95 || b == 46

-- so many such bytes, and at least one
abbrev pub is_named_by : (ℕ → Bool) → ℕ → List ℕ → Bool
is_named_by is_byte most text =
    nat_lt 0 (length text) && nat_le (length text) most && list_all is_byte text

-- the name of a role
unfoldable pub is_role : List ℕ → Bool
is_role text = is_named_by is_role_byte 255 text

-- the name of a task or of an agent
unfoldable pub is_name : List ℕ → Bool
is_name text = is_named_by is_name_byte 255 text

-- the name of an agent that a configuration may have
unfoldable pub is_configured : List ℕ → Bool
is_configured text = is_named_by is_configured_byte 64 text

-- byte order
abbrev pub bytes_before : List ℕ → List ℕ → Bool
bytes_before xs [] = false
bytes_before [] (y ∷ ys) = true
bytes_before (x ∷ xs) (y ∷ ys) = nat_lt x y || (x == y && bytes_before xs ys)

-- a number of a name, by which most names that differ are distinguished

abbrev pub next_number : ℕ → ℕ → ℕ
next_number number byte = (number * 31 % 2 ^ 32 + byte) % 2 ^ 32

abbrev pub name_number : List ℕ → ℕ
name_number text = fold next_number 0 text
