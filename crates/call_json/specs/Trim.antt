-- Whole numbers that were written with a point, as the numbers they are.
use Rattle.std.specs.Prelude.{◌≡◌, ℕ, zero, suc, ◌+◌, ◌==◌, ◌&&◌, Bool, true, false, not, List, [], ◌∷◌, length, take, drop, take_while, slice_index, nat_lt, if◌then◌else◌}
use Rattle.std.specs.List.{list_all, flat_map, before_first, after_first}
use Rattle.std.specs.Char.{is_ascii_digit}
use Rattle.call_json.specs.Cuts.{is_token_byte, Cuts}

-- ---- what becomes of a piece

abbrev pub is_point : ℕ → Bool
is_point b = b == 46

abbrev pub lacks_point : List ℕ → Bool
lacks_point text = list_all (λ b. not (is_point b)) text

-- a number without a minus that it may have
abbrev pub without_minus : List ℕ → List ℕ
without_minus number = if slice_index number 0 == 45 then drop 1 number else number

-- digits, after an optional minus
abbrev pub is_whole : List ℕ → Bool
is_whole number =
    nat_lt 0 (length (without_minus number)) && list_all is_ascii_digit (without_minus number)

abbrev pub is_zeros : List ℕ → Bool
is_zeros bs = nat_lt 0 (length bs) && list_all (λ b. b == 48) bs

-- a whole number, a point and zeros become the whole number, and any other piece stays
unfoldable pub trimmed : List ℕ → List ℕ
trimmed piece =
    if is_whole (before_first is_point piece) && is_zeros (after_first is_point piece)
    then before_first is_point piece else piece

-- ---- the pieces of a text, computed

-- how many bytes a string has after its first quote; the first argument says whether a backslash
-- escapes the next one
unfoldable pub string_len : Bool → List ℕ → ℕ
string_len taken [] = 0
string_len true (b ∷ bs) = 1 + string_len false bs
string_len false (b ∷ bs) = if b == 34 then 1 else 1 + string_len (b == 92) bs

abbrev pub piece_len : List ℕ → ℕ
piece_len [] = 0
piece_len (b ∷ bs) =
    if b == 34 then 1 + string_len false bs
    else (if is_token_byte b then 1 + length (take_while is_token_byte bs) else 1)

-- at most so many pieces from the front on
unfoldable pub first_pieces : ℕ → List ℕ → List (List ℕ)
first_pieces zero text = []
first_pieces (suc n) [] = []
first_pieces (suc n) (b ∷ bs) =
    take (piece_len (b ∷ bs)) (b ∷ bs) ∷ first_pieces n (drop (piece_len (b ∷ bs)) (b ∷ bs))

-- a text has no more pieces than bytes
abbrev pub pieces_of : List ℕ → List (List ℕ)
pieces_of text = first_pieces (length text) text

-- each piece by itself
unfoldable pub trim : List ℕ → List ℕ
trim text = flat_map trimmed (pieces_of text)

-- a text is cut in one way
abbrev pub OneCut : Type 0
OneCut = (text : List ℕ) (pieces : List (List ℕ)) → Cuts text pieces → pieces ≡ pieces_of text

abbrev pub AreCut : Type 0
AreCut = (text : List ℕ) → Cuts text (pieces_of text)
