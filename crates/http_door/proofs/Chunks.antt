-- What stands at the front of a body in chunks is one chunk, or the end, or is refused for one fault.
use Rattle.std.proofs.Common.{◌≡◌, ℕ, ◌+◌, ◌<◌, ◌≤◌, List, [], ◌++◌, length, ◌⊎◌, inl, inr, sym, ap, ◌∙◌, refl, subst, arith}
use Rattle.std.proofs.lemmas.List.{length-append}
use Rattle.httparse.specs.Grammar.{ChunkLine, ReadsChunkLine, chunk_size}
use Rattle.httparse.proofs.ChunkLemmas.{chunk_line_unique}
use Rattle.http_head.specs.declared.cut.Place.TheVariants.{Line, Start}
use Rattle.http_head.specs.declared.fault.RequestFault.{RequestFault}
use Rattle.http_head.specs.declared.fault.RequestFault.TheVariants.{TooLong, BadBody}
use Rattle.http_head.specs.Heads.{max_body}
use Rattle.http_head.specs.Lines.{IsLine, IsTrailers}
use Rattle.http_head.specs.Requests.{HasPart}
use Rattle.http_head.specs.Bodies.{line_end, HasLine, HasChunk, HasEnd, LacksTrailers, overlong_trailers, unended_trailers, unparsed_trailers, LacksLine, overlong_line, unended_line, unparsed_line, LacksData, short, other, RefusesChunk, line, over, data_of, trailers}
use Rattle.http_head.proofs.Parts.{split_one}
use Rattle.http_door.proofs.Parts.{part_one, part_within, part_ended}

line_one : (input : List ℕ) (l : ChunkLine) (rest : List ℕ) (k : ChunkLine) (r : List ℕ) → HasLine input l rest → HasLine input k r → (l ≡ k) × (rest ≡ r)
line_one input l rest k r a b =
    let parts = part_one Line input a.text rest b.text r a.part b.part in
    let lines = chunk_line_unique b.text l k [] [] (subst (λ (x : List ℕ). ReadsChunkLine x l []) parts.0 a.is) b.is in
    (lines.0, parts.1)

no_line : (input : List ℕ) (ended : Type 0) (l : ChunkLine) (rest : List ℕ) → LacksLine input ended → HasLine input l rest → ⊥
no_line input ended l rest (overlong_line long) at = part_within Line input at.text rest at.part long
no_line input ended l rest (unended_line ends) at = part_ended Line input at.text rest ended at.part ends
no_line input ended l rest (unparsed_line t r part none) at =
    none l (subst (λ (x : List ℕ). IsLine x l) (part_one Line input at.text rest t r at.part part).0 at.is)

no_trailers : (input : List ℕ) (ended : Type 0) (text rest : List ℕ) → LacksTrailers input ended → HasPart Start input text rest → IsTrailers text → ⊥
no_trailers input ended text rest (overlong_trailers long) part are = part_within Start input text rest part long
no_trailers input ended text rest (unended_trailers ends) part are = part_ended Start input text rest ended part ends
no_trailers input ended text rest (unparsed_trailers t r found none) part are =
    none (subst (λ (x : List ℕ). IsTrailers x) (part_one Start input text rest t r part found).0 are)

-- so many bytes and a line end are there
data_there : (input bytes rest : List ℕ) (ended : Type 0) (size : ℕ) → input ≡ bytes ++ (line_end ++ rest) → length bytes ≡ size → LacksData input ended size → ⊥
data_there input bytes rest ended size is whole (short ends less) =
    absurd (omega (arith, ap length is, length-append bytes (line_end ++ rest), length-append line_end rest))
data_there input bytes rest ended size is whole (other xs two r joined sized pair wrong) =
    let bytes_are = split_one xs bytes (two ++ r) (line_end ++ rest) (sym joined ∙ is) (sized ∙ sym whole) in
    wrong (split_one two line_end r rest bytes_are.1 pair).0

pub chunk_one : (input bytes rest b r : List ℕ) → HasChunk input bytes rest → HasChunk input b r → (bytes ≡ b) × (rest ≡ r)
chunk_one input bytes rest b r x y =
    let lines = line_one input x.line (bytes ++ (line_end ++ rest)) y.line (b ++ (line_end ++ r)) x.at y.at in
    let bytes_are = split_one bytes b (line_end ++ rest) (line_end ++ r) lines.1 (sym x.size ∙ ap chunk_size lines.0 ∙ y.size) in
    (bytes_are.0, (split_one line_end line_end rest r bytes_are.1 refl).1)

pub chunk_no_end : (input bytes rest r : List ℕ) → HasChunk input bytes rest → HasEnd input r → ⊥
chunk_no_end input bytes rest r x y =
    let lines = line_one input x.line (bytes ++ (line_end ++ rest)) y.line y.after x.at y.at in
    let none : length bytes ≡ 0 = sym x.size ∙ ap chunk_size lines.0 ∙ y.size in
    absurd (omega (arith, x.some, none))

pub end_one : (input rest r : List ℕ) → HasEnd input rest → HasEnd input r → rest ≡ r
end_one input rest r x y =
    let lines = line_one input x.line x.after y.line y.after x.at y.at in
    (part_one Start y.after x.trailers rest y.trailers r (subst (λ (a : List ℕ). HasPart Start a x.trailers rest) lines.1 x.part) y.part).1

-- ---- refusals

pub chunk_not_refused : (input bytes rest : List ℕ) (ended : Type 0) (before : ℕ) (fault : RequestFault) → HasChunk input bytes rest → before + length bytes ≤ max_body
    → RefusesChunk input ended before fault → ⊥
chunk_not_refused input bytes rest ended before fault x fits (line is lacks) = no_line input ended x.line (bytes ++ (line_end ++ rest)) lacks x.at
chunk_not_refused input bytes rest ended before fault x fits (over is l r at more) =
    let lines = line_one input l r x.line (bytes ++ (line_end ++ rest)) at x.at in
    let size : chunk_size l ≡ length bytes = ap chunk_size lines.0 ∙ x.size in
    absurd (omega (arith, more, fits, size))
chunk_not_refused input bytes rest ended before fault x fits (data_of is l r at some within lacks) =
    let lines = line_one input l r x.line (bytes ++ (line_end ++ rest)) at x.at in
    data_there r bytes rest ended (chunk_size l) lines.1 (sym (ap chunk_size lines.0 ∙ x.size)) lacks
chunk_not_refused input bytes rest ended before fault x fits (trailers is l r at zero lacks) =
    let lines = line_one input l r x.line (bytes ++ (line_end ++ rest)) at x.at in
    let size : chunk_size l ≡ length bytes = ap chunk_size lines.0 ∙ x.size in
    absurd (omega (arith, zero, x.some, size))

pub end_not_refused : (input rest : List ℕ) (ended : Type 0) (before : ℕ) (fault : RequestFault) → HasEnd input rest → before ≤ max_body
    → RefusesChunk input ended before fault → ⊥
end_not_refused input rest ended before fault x fits (line is lacks) = no_line input ended x.line x.after lacks x.at
end_not_refused input rest ended before fault x fits (over is l r at more) =
    let lines = line_one input l r x.line x.after at x.at in
    let size : chunk_size l ≡ 0 = ap chunk_size lines.0 ∙ x.size in
    absurd (omega (arith, more, fits, size))
end_not_refused input rest ended before fault x fits (data_of is l r at some within lacks) =
    let lines = line_one input l r x.line x.after at x.at in
    let size : chunk_size l ≡ 0 = ap chunk_size lines.0 ∙ x.size in
    absurd (omega (arith, some, size))
end_not_refused input rest ended before fault x fits (trailers is l r at zero lacks) =
    let lines = line_one input l r x.line x.after at x.at in
    no_trailers r ended x.trailers rest lacks (subst (λ (a : List ℕ). HasPart Start a x.trailers rest) (sym lines.1) x.part) x.are

-- a chunk's line that is there keeps to the limit
abbrev Fits : List ℕ → ℕ → Type 0
Fits input before = (l : ChunkLine) (rest : List ℕ) → HasLine input l rest → before + chunk_size l ≤ max_body

-- a chunk's line is there that goes over the limit
record GoesOver (input : List ℕ) (before : ℕ) : Type 0 where
  line : ChunkLine
  rest : List ℕ
  at : HasLine input line rest
  more : max_body < before + chunk_size line

cause : (input : List ℕ) (ended : Type 0) (before : ℕ) (fault : RequestFault) → before ≤ max_body → RefusesChunk input ended before fault
    → ((fault ≡ BadBody) × Fits input before) ⊎ ((fault ≡ TooLong) × GoesOver input before)
cause input ended before fault fits (line is lacks) = inl (is, λ k t has. absurd (no_line input ended k t lacks has))
cause input ended before fault fits (over is l r at more) = inr (is, record { line = l; rest = r; at = at; more = more })
cause input ended before fault fits (data_of is l r at some within lacks) =
    inl (is, λ k t has. let size : chunk_size l ≡ chunk_size k = ap chunk_size (line_one input l r k t at has).0 in omega (arith, within, size))
cause input ended before fault fits (trailers is l r at zero lacks) =
    inl (is, λ k t has. let size : chunk_size l ≡ chunk_size k = ap chunk_size (line_one input l r k t at has).0 in omega (arith, fits, zero, size))

pub refused_chunk_one : (input : List ℕ) (ended end : Type 0) (before : ℕ) (f g : RequestFault) → before ≤ max_body
    → RefusesChunk input ended before f → RefusesChunk input end before g → f ≡ g
refused_chunk_one input ended end before f g fits x y = by_causes (cause input ended before f fits x) (cause input end before g fits y)
  where
    by_causes : ((f ≡ BadBody) × Fits input before) ⊎ ((f ≡ TooLong) × GoesOver input before)
        → ((g ≡ BadBody) × Fits input before) ⊎ ((g ≡ TooLong) × GoesOver input before) → f ≡ g
    by_causes (inl a) (inl b) = a.0 ∙ sym b.0
    by_causes (inl a) (inr b) = absurd (omega (arith, a.1 b.1.line b.1.rest b.1.at, b.1.more))
    by_causes (inr a) (inl b) = absurd (omega (arith, b.1 a.1.line a.1.rest a.1.at, a.1.more))
    by_causes (inr a) (inr b) = a.0 ∙ sym b.0
