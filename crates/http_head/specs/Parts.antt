-- The parts of a request that are cut out of its bytes, each as a whole text (RFC 9112, sections
-- 2.1, 2.2 and 7.1): a head, the line of a chunk, and trailers.
use Rattle.std.specs.Prelude.{◌≡◌, ◌≢◌, ◌⊎◌, ℕ, ◌≤◌, ◌<◌, List, [], ◌∷◌, ◌++◌, length}
use Rattle.std.specs.List.{AllByRecursion, concat}
use Rattle.http_head.specs.declared.cut.Place.{Place}
use Rattle.http_head.specs.declared.cut.Place.TheVariants.{Front, FrontCr, Inside, Start, StartCr, Line}

-- a part has at most so many bytes, line ends and empty lines counted
abbrev pub max_part : ℕ
max_part = 16384

-- a line: bytes without a line feed, and then one
pub record IsLineText (text : List ℕ) : Type 0 where
  pub bytes : List ℕ
  pub no_feed : AllByRecursion (λ b. b ≢ 10) bytes
  pub ends : text ≡ bytes ++ 10 ∷ []

-- a line of nothing but its end: a line feed, with a CR before it or without
abbrev pub IsEmptyLine : List ℕ → Type 0
IsEmptyLine text = (text ≡ 10 ∷ []) ⊎ (text ≡ 13 ∷ 10 ∷ [])

-- a line that isn't empty; it may begin with a CR, or end with several
pub record IsFilledLine (text : List ℕ) : Type 0 where
  pub line : IsLineText text
  pub filled : ¬ (IsEmptyLine text)

-- nothing, or empty lines
pub record IsBlank (text : List ℕ) : Type 0 where
  pub lines : List (List ℕ)
  pub empty : AllByRecursion IsEmptyLine lines
  pub joined : text ≡ concat lines

-- trailers: lines that aren't empty, maybe none, and an empty line
pub record IsTrailerText (text : List ℕ) : Type 0 where
  pub lines : List (List ℕ)
  pub last : List ℕ
  pub filled : AllByRecursion IsFilledLine lines
  pub empty : IsEmptyLine last
  pub joined : text ≡ concat lines ++ last

-- a head: maybe empty lines, then lines that aren't empty, at least one, and an empty line
pub record IsHeadText (text : List ℕ) : Type 0 where
  pub before : List ℕ
  pub lines : List (List ℕ)
  pub last : List ℕ
  pub blank : IsBlank before
  pub some : 0 < length lines
  pub filled : AllByRecursion IsFilledLine lines
  pub empty : IsEmptyLine last
  pub joined : text ≡ before ++ (concat lines ++ last)

-- the rest of a line, and then trailers
pub record IsRestAndTrailers (text : List ℕ) : Type 0 where
  pub rest : List ℕ
  pub after : List ℕ
  pub line : IsLineText rest
  pub trailers : IsTrailerText after
  pub joined : text ≡ rest ++ after

-- the text is the part that begins at this place, or its rest where a line of it was begun: from
-- `Front` a head, from `Start` trailers, from `Line` one line
abbrev pub IsPart : Place → List ℕ → Type 0
IsPart Front text = IsHeadText text
IsPart FrontCr text = IsHeadText (13 ∷ text)
IsPart Inside text = IsRestAndTrailers text
IsPart Start text = IsTrailerText text
IsPart StartCr text = IsTrailerText (13 ∷ text)
IsPart Line text = IsLineText text

-- no beginning of the input is such a part
abbrev pub LacksPart : Place → List ℕ → Type 0
LacksPart place input = (text rest : List ℕ) → input ≡ text ++ rest → ¬ (IsPart place text)

-- the text is one part, and keeps to the limit
pub record IsCut (place : Place) (text : List ℕ) : Type 0 where
  pub whole : IsPart place text
  pub fits : length text ≤ max_part
