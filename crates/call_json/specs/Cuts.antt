-- How a text is cut into strings, number tokens and single other bytes.
use Rattle.std.specs.Prelude.{◌≡◌, ℕ, ◌<◌, ◌==◌, ◌&&◌, ◌||◌, ◌⊎◌, not, Bool, true, false, List, [], ◌∷◌, ◌++◌, length, slice_index}
use Rattle.std.specs.List.{list_all}
use Rattle.std.specs.Char.{is_ascii_digit}

-- digits, `+`, `-`, `.`, `e`, `E`
abbrev pub is_token_byte : ℕ → Bool
is_token_byte b = is_ascii_digit b || (b == 43) || (b == 45) || (b == 46) || (b == 101) || (b == 69)

-- whether a backslash escapes the byte after these bytes; the first argument says whether one
-- escapes the first of them
abbrev pub takes_next : Bool → List ℕ → Bool
takes_next taken [] = taken
takes_next taken (b ∷ bs) = takes_next (not taken && (b == 92)) bs

-- a backslash escapes each quote in these bytes
abbrev pub NoQuoteEnds : List ℕ → Type 0
NoQuoteEnds bs =
    (before after : List ℕ) → bs ≡ before ++ 34 ∷ after → takes_next false before ≡ true

-- a string: from a quote to the next quote that no backslash escapes, or to the end of the text
abbrev pub IsString : List ℕ → List ℕ → Type 0
IsString piece rest =
    (inner : List ℕ) × NoQuoteEnds inner
    × (((piece ≡ 34 ∷ (inner ++ 34 ∷ [])) × (takes_next false inner ≡ false))
    ⊎ ((piece ≡ 34 ∷ inner) × (rest ≡ [])))

-- a number token: a longest run of the bytes of numbers
abbrev pub IsToken : List ℕ → List ℕ → Type 0
IsToken piece rest =
    (0 < length piece) × (list_all is_token_byte piece ≡ true)
    × (is_token_byte (slice_index rest 0) ≡ false)

-- a single other byte
abbrev pub IsOther : List ℕ → Type 0
IsOther piece = (b : ℕ) × (piece ≡ b ∷ []) × ((b == 34) ≡ false) × (is_token_byte b ≡ false)

-- the piece is one where this rest follows
abbrev pub IsPiece : List ℕ → List ℕ → Type 0
IsPiece piece rest = IsString piece rest ⊎ IsToken piece rest ⊎ IsOther piece

-- the text is these pieces, one after another
abbrev pub Cuts : List ℕ → List (List ℕ) → Type 0
Cuts text [] = text ≡ []
Cuts text (piece ∷ pieces) =
    (rest : List ℕ) × (text ≡ piece ++ rest) × IsPiece piece rest × Cuts rest pieces
