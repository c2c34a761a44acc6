-- The bodies of requests (RFC 9112, sections 6 and 7.1).
use Rattle.std.specs.Prelude.{◌≡◌, ◌≢◌, ℕ, ◌+◌, ◌<◌, ◌≤◌, List, [], ◌∷◌, ◌++◌, length}
use Rattle.httparse.specs.Grammar.{ChunkLine, chunk_size}
use Rattle.http_head.specs.declared.cut.Place.TheVariants.{Start, Line}
use Rattle.http_head.specs.declared.plan.Body.{Body}
use Rattle.http_head.specs.declared.plan.Body.TheVariants.{Sized, Chunked}
use Rattle.http_head.specs.declared.fault.RequestFault.{RequestFault}
use Rattle.http_head.specs.declared.fault.RequestFault.TheVariants.{TooLong, BadBody}
use Rattle.http_head.specs.Heads.{max_body}
use Rattle.http_head.specs.Lines.{IsLine, IsTrailers}
use Rattle.http_head.specs.Requests.{HasPart, IsOverlong, IsUnended}

-- CR LF
abbrev pub line_end : List ℕ
line_end = 13 ∷ 10 ∷ []

-- the input is a chunk's line, and then the rest
pub record HasLine (input : List ℕ) (line : ChunkLine) (rest : List ℕ) : Type 0 where
  pub text : List ℕ
  pub part : HasPart Line input text rest
  pub is : IsLine text line

-- the input is a chunk with these data, and then the rest
pub record HasChunk (input bytes rest : List ℕ) : Type 0 where
  pub line : ChunkLine
  pub at : HasLine input line (bytes ++ (line_end ++ rest))
  pub size : chunk_size line ≡ length bytes
  pub some : 0 < length bytes

-- the input is chunks with these data, one after another, and then the rest
abbrev pub HasChunks : List (List ℕ) → List ℕ → List ℕ → Type 0
HasChunks [] input rest = input ≡ rest
HasChunks (bytes ∷ chunks) input rest =
    (after : List ℕ) × HasChunk input bytes after × HasChunks chunks after rest

abbrev pub joined : List (List ℕ) → List ℕ
joined [] = []
joined (bytes ∷ chunks) = bytes ++ joined chunks

-- the input is the last chunk and trailers, and then the rest
pub record HasEnd (input rest : List ℕ) : Type 0 where
  pub line : ChunkLine
  pub after : List ℕ
  pub trailers : List ℕ
  pub at : HasLine input line after
  pub size : chunk_size line ≡ 0
  pub part : HasPart Start after trailers rest
  pub are : IsTrailers trailers

-- the input is a body in chunks, and then the rest
pub record HasChunked (input body rest : List ℕ) : Type 0 where
  pub chunks : List (List ℕ)
  pub after : List ℕ
  pub are : HasChunks chunks input after
  pub end : HasEnd after rest
  pub body_is : body ≡ joined chunks
  pub within : length body ≤ max_body

-- the input is a body that comes so, and then the rest
abbrev pub HasBody : Body → List ℕ → List ℕ → List ℕ → Type 0
HasBody (Sized n) input body rest = (input ≡ body ++ rest) × (length body ≡ n)
HasBody Chunked input body rest = HasChunked input body rest

-- the input isn't trailers
pub data LacksTrailers (input : List ℕ) (ended : Type 0) : Type 0 where
  overlong_trailers : IsOverlong Start input → LacksTrailers input ended
  unended_trailers : IsUnended Start input ended → LacksTrailers input ended
  unparsed_trailers : (text rest : List ℕ) → HasPart Start input text rest → ¬ (IsTrailers text)
      → LacksTrailers input ended

-- the input isn't a chunk's line
pub data LacksLine (input : List ℕ) (ended : Type 0) : Type 0 where
  overlong_line : IsOverlong Line input → LacksLine input ended
  unended_line : IsUnended Line input ended → LacksLine input ended
  unparsed_line : (text rest : List ℕ) → HasPart Line input text rest
      → ((l : ChunkLine) → ¬ (IsLine text l)) → LacksLine input ended

-- the input isn't so many bytes and a line end
pub data LacksData (input : List ℕ) (ended : Type 0) (size : ℕ) : Type 0 where
  short : ended → length input < size + 2 → LacksData input ended size
  other : (bytes two rest : List ℕ) → input ≡ bytes ++ (two ++ rest) → length bytes ≡ size
      → length two ≡ 2 → two ≢ line_end → LacksData input ended size

-- after so many bytes of a body, the front of the input is neither a chunk nor the end
pub data RefusesChunk (input : List ℕ) (ended : Type 0) (before : ℕ)
    (fault : RequestFault) : Type 0 where
  line : fault ≡ BadBody → LacksLine input ended → RefusesChunk input ended before fault
  over : fault ≡ TooLong → (l : ChunkLine) (rest : List ℕ) → HasLine input l rest
      → max_body < before + chunk_size l → RefusesChunk input ended before fault
  data_of : fault ≡ BadBody → (l : ChunkLine) (rest : List ℕ) → HasLine input l rest
      → 0 < chunk_size l → before + chunk_size l ≤ max_body
      → LacksData rest ended (chunk_size l) → RefusesChunk input ended before fault
  trailers : fault ≡ BadBody → (l : ChunkLine) (rest : List ℕ) → HasLine input l rest
      → chunk_size l ≡ 0 → LacksTrailers rest ended → RefusesChunk input ended before fault

-- a body in chunks is refused at its first fault
pub record RefusesChunked (input : List ℕ) (ended : Type 0) (fault : RequestFault) : Type 0 where
  pub chunks : List (List ℕ)
  pub after : List ℕ
  pub are : HasChunks chunks input after
  pub within : length (joined chunks) ≤ max_body
  pub refuses : RefusesChunk after ended (length (joined chunks)) fault

-- a body that comes so is refused
abbrev pub RefusesBody : Body → List ℕ → Type 0 → RequestFault → Type 0
RefusesBody (Sized n) input ended fault = ended × (length input < n) × (fault ≡ BadBody)
RefusesBody Chunked input ended fault = RefusesChunked input ended fault
