-- Chunk lines and trailers (RFC 9112, section 7.1).
use Rattle.std.specs.Prelude.{ℕ, ◌≤◌, List, [], length}
use Rattle.httparse.specs.Grammar.{LineEnd, Field, ReadsSection, ChunkLine, ReadsChunkLine}
use Rattle.http_head.specs.Heads.{max_fields}

-- the text is this chunk line to its last byte
abbrev pub IsLine : List ℕ → ChunkLine → Type 0
IsLine text line = ReadsChunkLine text line []

-- the text is trailers to its last byte
pub record IsTrailers (text : List ℕ) : Type 0 where
  pub fields : List Field
  pub last : LineEnd
  pub reads : ReadsSection text fields last []
  pub few : length fields ≤ max_fields
