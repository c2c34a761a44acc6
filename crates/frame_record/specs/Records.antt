-- Records on a text (RecordIO, the framing of the Mesos scheduler HTTP API):
-- a size in decimal digits, a line feed, and so many bytes of data.
use Rattle.std.specs.Prelude.{true, Result, Ok, Err, ◌≡◌, ℕ, ◌^◌, ◌<◌, ◌≤◌, ◌==◌, ◌||◌, List, [], ◌∷◌, ◌++◌, not, Option, Some, None, length, take, drop, take_while, nat_lt, nat_le, if◌then◌else◌, decimal}
use Rattle.std.specs.Char.{is_ascii_digit}
use Rattle.std.specs.Str.{all_ascii_digits}
use Rattle.std.specs.Str.Parse.{digits_value}
use Rattle.frame_record.specs.declared.fault.FrameFault.{FrameFault}
use Rattle.frame_record.specs.declared.fault.FrameFault.TheVariants.{BadSize, TooLong, Cut}

-- the most data bytes of a record
abbrev pub limit : ℕ
limit = 1048576

-- one to twenty digits that write n, a size within the limit
pub record IsSize (digits : List ℕ) (n : ℕ) : Type 0 where
  pub some : 0 < length digits
  pub short : length digits ≤ 20
  pub digits_only : all_ascii_digits digits ≡ true
  pub value : digits_value 10 digits ≡ n
  pub within : n ≤ limit

-- the text is a size line, these data, and the rest
abbrev pub BeginsWith : List ℕ → List ℕ → List ℕ → Type 0
BeginsWith text body rest =
    (digits : List ℕ) × IsSize digits (length body) × (text ≡ digits ++ 10 ∷ (body ++ rest))

-- the text is the texts of these records one after another, and then the rest
abbrev pub Splits : List ℕ → List (List ℕ) → List ℕ → Type 0
Splits text [] rest = text ≡ rest
Splits text (body ∷ others) rest =
    (after : List ℕ) × BeginsWith text body after × Splits after others rest

-- the written form: no leading zero
abbrev pub record_text : List ℕ → List ℕ
record_text body = decimal (length body) ++ 10 ∷ body

-- What a text begins with: a record and what follows it,
-- a size line or data not yet whole, or a fault.
pub data First : Type 0 where
  whole : List ℕ → List ℕ → First
  partial : First
  faulty : FrameFault → First

-- the digits and what follows them; a size line is judged at the first byte that is no digit,
-- or at its twenty-first digit
abbrev pub judged : List ℕ → List ℕ → First
judged digits [] = if nat_lt 20 (length digits) then faulty BadSize else partial
judged digits (b ∷ body) =
    if nat_lt 20 (length digits) || not (b == 10) || (length digits == 0)
    || nat_le (2 ^ 64) (digits_value 10 digits) then faulty BadSize
    else (if nat_lt limit (digits_value 10 digits) then faulty TooLong
    else (if nat_lt (length body) (digits_value 10 digits) then partial
    else whole (take (digits_value 10 digits) body) (drop (digits_value 10 digits) body)))

unfoldable pub first : List ℕ → First
first text =
    judged (take_while is_ascii_digit text) (drop (length (take_while is_ascii_digit text)) text)

-- The state of a reader: a rest that is no whole record and has no fault, or a fault.
pub record State : Type 0 where
  pub rest : List ℕ
  pub fault : Option FrameFault

-- After the whole text, with these records, a reader has this rest, or this fault.
abbrev pub Ends : List ℕ → List (List ℕ) → List ℕ → Option FrameFault → Type 0
Ends text records rest None = Splits text records rest × (first rest ≡ partial)
Ends text records rest (Some f) =
    (after : List ℕ) × Splits text records after × (first after ≡ faulty f)

abbrev pub Reads : List ℕ → List (List ℕ) → State → Type 0
Reads text records s = Ends text records s.rest s.fault

-- what the end of the stream says
abbrev pub end_at : List ℕ → Option FrameFault → Result Unit FrameFault
end_at [] None = Ok tt
end_at (b ∷ bs) None = Err Cut
end_at rest (Some f) = Err f

abbrev pub end_of : State → Result Unit FrameFault
end_of s = end_at s.rest s.fault

-- one fault, or one rest
abbrev pub SameEnd : State → State → Type 0
SameEnd s t = (s.fault ≡ t.fault) × (s.fault ≡ None → s.rest ≡ t.rest)
