-- How the end of a part of a request is found, byte by byte.
use Rattle.std.specs.Prelude.{◌≡◌, ℕ, ◌+◌, ◌≤◌, Bool, false, List, [], ◌∷◌, length, take, Option, Some, None, if◌then◌else◌, ◌==◌}
use Rattle.http_head.specs.declared.cut.Place.{Place}
use Rattle.http_head.specs.declared.cut.Place.TheVariants.{Front, FrontCr, Inside, Start, StartCr, Line}
use Rattle.http_head.specs.declared.cut.Scan.{Scan}

-- the byte ends the part: it is the line feed of an empty line after a line, or of the one line
abbrev pub is_last : Place → ℕ → Bool
is_last Front b = false
is_last FrontCr b = false
is_last Inside b = false
is_last Start b = b == 10
is_last StartCr b = b == 10
is_last Line b = b == 10

-- the place after one more byte
abbrev pub place_after : Place → ℕ → Place
place_after Front b = if b == 10 then Front else (if b == 13 then FrontCr else Inside)
place_after FrontCr b = if b == 10 then Front else Inside
place_after Inside b = if b == 10 then Start else Inside
place_after Start b = if b == 10 then Start else (if b == 13 then StartCr else Inside)
place_after StartCr b = if b == 10 then Start else Inside
place_after Line b = Line

-- the place after a text that begins at a place
unfoldable pub place_behind : Place → List ℕ → Place
place_behind place [] = place
place_behind place (b ∷ bs) = place_behind (place_after place b) bs

-- after n bytes, at this place: how many bytes lead to the part's end
unfoldable pub cut_after : ℕ → Place → List ℕ → Option ℕ
cut_after n place [] = None
cut_after n place (b ∷ bs) =
    if is_last place b then Some (n + 1) else cut_after (n + 1) (place_after place b) bs

-- how many bytes of a text lead to the end of the part that begins at this place
abbrev pub cut_len : Place → List ℕ → Option ℕ
cut_len place bytes = cut_after 0 place bytes

-- so many bytes of a text were searched, and the part doesn't end in them
pub record HasSeen (scan : Scan) (bytes : List ℕ) : Type 0 where
  pub within : scan.seen ≤ length bytes
  pub none : cut_len scan.start (take scan.seen bytes) ≡ None
  pub place : scan.place ≡ place_behind scan.start (take scan.seen bytes)
