-- The lines of a text. A line feed ends a line; the last may lack it.
use Rattle.std.specs.Prelude.{◌≡◌, ℕ, ◌+◌, ◌==◌, List, [], ◌∷◌, ◌++◌, map, take, if◌then◌else◌, Vec}
use Rattle.std.specs.List.{fold}
use Rattle.std.specs.Global.{Global}

-- the lines that have ended, without their line feeds, and the one that has not
pub record Lines : Type 0 where
  pub ended : List (List ℕ)
  pub rest : List ℕ

abbrev pub no_lines : Lines
no_lines = record { ended = []; rest = [] }

abbrev pub with_byte : Lines → ℕ → Lines
with_byte s b =
    if b == 10 then record { ended = s.ended ++ s.rest ∷ []; rest = [] }
    else record { ended = s.ended; rest = s.rest ++ b ∷ [] }

unfoldable pub lines_of : List ℕ → Lines
lines_of text = fold with_byte no_lines text

-- the last line, if there is one after the last line feed
abbrev pub last_line : List ℕ → List (List ℕ)
last_line [] = []
last_line (b ∷ bs) = (b ∷ bs) ∷ []

abbrev pub all_lines : List ℕ → List (List ℕ)
all_lines text = (lines_of text).ended ++ last_line (lines_of text).rest

-- of a longer line no more than one byte too many is kept
abbrev pub longest : ℕ
longest = 1048576

unfoldable pub kept : List ℕ → List ℕ
kept line = take (longest + 1) line

-- the lines of the text that have ended are kept so, and so is the one that has not
abbrev pub Reads : List ℕ → List (List ℕ) → List ℕ → Type 0
Reads text lines rest =
    (lines ≡ map kept (lines_of text).ended) × (rest ≡ kept (lines_of text).rest)

abbrev pub bodies : List (Vec ℕ Global) → List (List ℕ)
bodies vs = map (λ v. v.items) vs
