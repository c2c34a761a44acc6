-- Chunks one after another.
use Rattle.std.proofs.Common.{◌≡◌, ◌≢◌, ℕ, ◌<◌, ◌≤◌, Bool, true, false, IsTrue, ◌↔◌, List, [], ◌∷◌, ◌++◌, length, take, drop, get_or, sym, ap, ◌∙◌, subst, refl, arith, append_assoc, append-nil}
use Rattle.std.proofs.lemmas.List.{length-append}
use Rattle.httparse.specs.Grammar.{ChunkLine, chunk_size}
use Rattle.http_head.specs.declared.cut.Place.TheVariants.{Line, Start}
use Rattle.http_head.specs.Bodies.{line_end, HasLine, HasChunk, HasChunks, joined, LacksData, short, other, LacksLine, unparsed_line, LacksTrailers, unparsed_trailers}
use Rattle.http_head.specs.Lines.{IsLine, IsTrailers}
use Rattle.http_head.specs.Requests.{HasPart}
use Rattle.http_head.proofs.RequestParts.{part_more}

pub line_more : (input : List ℕ) (l : ChunkLine) (rest more : List ℕ) → HasLine input l rest → HasLine (input ++ more) l (rest ++ more)
line_more input l rest more at = record {
  text = at.text;
  part = part_more Line input at.text rest more at.part;
  is = at.is;
}

chunk_more : (input bytes rest more : List ℕ) → HasChunk input bytes rest → HasChunk (input ++ more) bytes (rest ++ more)
chunk_more input bytes rest more c = record {
  line = c.line;
  at = subst (λ (t : List ℕ). HasLine (input ++ more) c.line t)
      (append_assoc bytes (line_end ++ rest) more ∙ ap (λ (t : List ℕ). bytes ++ t) (append_assoc line_end rest more))
      (line_more input c.line (bytes ++ (line_end ++ rest)) more c.at);
  size = c.size;
  some = c.some;
}

pub chunks_more : (chunks : List (List ℕ)) (input rest more : List ℕ) → HasChunks chunks input rest → HasChunks chunks (input ++ more) (rest ++ more)
chunks_more [] input rest more is = ap (λ (t : List ℕ). t ++ more) is
chunks_more (bytes ∷ chunks) input rest more are =
    (are.0 ++ more, chunk_more input bytes are.0 more are.1, chunks_more chunks are.0 rest more are.2)

pub chunks_then : (chunks : List (List ℕ)) (input middle bytes rest : List ℕ) → HasChunks chunks input middle → HasChunk middle bytes rest
    → HasChunks (chunks ++ bytes ∷ []) input rest
chunks_then [] input middle bytes rest is c = (rest, subst (λ (t : List ℕ). HasChunk t bytes rest) (sym is) c, refl)
chunks_then (first ∷ chunks) input middle bytes rest are c = (are.0, are.1, chunks_then chunks are.0 middle bytes rest are.2 c)

pub joined_then : (chunks : List (List ℕ)) (bytes : List ℕ) → joined (chunks ++ bytes ∷ []) ≡ joined chunks ++ bytes
joined_then [] bytes = append-nil bytes
joined_then (first ∷ chunks) bytes = ap (λ (t : List ℕ). first ++ t) (joined_then chunks bytes) ∙ sym (append_assoc first (joined chunks) bytes)

-- ---- what is found when more has come

pub line_then : (old m n : List ℕ) (l : ChunkLine) (rest : List ℕ) → HasLine (old ++ m) l rest → HasLine (old ++ (m ++ n)) l (rest ++ n)
line_then old m n l rest at = subst (λ (t : List ℕ). HasLine t l (rest ++ n)) (append_assoc old m n) (line_more (old ++ m) l rest n at)

-- the data of a chunk, and what stands behind them
pub data_rest : (u m n bytes v : List ℕ) → u ++ m ≡ bytes ++ v → u ++ (m ++ n) ≡ bytes ++ (v ++ n)
data_rest u m n bytes v is = sym (append_assoc u m n) ∙ ap (λ (t : List ℕ). t ++ n) is ∙ append_assoc bytes v n

pub data_short : (u m : List ℕ) (ended : Type 0) (count size : ℕ) → count ≡ size → ended × (length (u ++ m) < count) → LacksData (u ++ m) ended size
data_short u m ended count size is (at_end, less) = short at_end (omega arith)

pub data_other : (u m n bytes v : List ℕ) (ended : Type 0) (size : ℕ) → u ++ m ≡ bytes ++ v → length bytes ≡ size → LacksData (v ++ n) ended 0
    → LacksData (u ++ (m ++ n)) ended size
data_other u m n bytes v ended size is size_is (short at_end less) =
    short at_end (omega (arith, ap length (data_rest u m n bytes v is), length-append bytes (v ++ n)))
data_other u m n bytes v ended size is size_is (other none two rest joined none_is two_is wrong) =
    other (bytes ++ none) two rest
    (data_rest u m n bytes v is ∙ ap (λ (t : List ℕ). bytes ++ t) joined ∙ sym (append_assoc bytes none (two ++ rest)))
    (length-append bytes none ∙ omega arith) two_is wrong

-- the first two bytes
front_two : (xs : List ℕ) → 2 ≤ length xs → xs ≡ get_or xs 0 0 ∷ (get_or xs 1 0 ∷ drop 2 xs)
front_two [] le = absurd (omega arith)
front_two (x ∷ []) le = absurd (omega arith)
front_two (x ∷ (y ∷ xs)) le = refl

pub no_end : (xs : List ℕ) (ended : Type 0) → 2 ≤ length xs → (get_or xs 0 0 ∷ (get_or xs 1 0 ∷ []) ≢ line_end) → LacksData xs ended 0
no_end xs ended le wrong = other [] (get_or xs 0 0 ∷ (get_or xs 1 0 ∷ [])) (drop 2 xs) (front_two xs le) refl refl wrong

pub first_differs : (a b : ℕ) → a ≢ 13 → a ∷ (b ∷ []) ≢ line_end
first_differs a b wrong same = wrong (ap (λ (t : List ℕ). get_or t 0 0) same)

pub second_differs : (a b : ℕ) → b ≢ 10 → a ∷ (b ∷ []) ≢ line_end
second_differs a b wrong same = wrong (ap (λ (t : List ℕ). get_or t 1 0) same)

pub an_end : (xs : List ℕ) → 2 ≤ length xs → get_or xs 0 0 ≡ 13 → get_or xs 1 0 ≡ 10 → xs ≡ line_end ++ drop 2 xs
an_end xs le first second =
    front_two xs le ∙ ap (λ (a : ℕ). a ∷ (get_or xs 1 0 ∷ drop 2 xs)) first ∙ ap (λ (b : ℕ). 13 ∷ (b ∷ drop 2 xs)) second

pub line_at : (zs input rest : List ℕ) (n : ℕ) (l : ChunkLine) → zs ≡ input → HasPart Line zs (take n zs) (drop n zs) → IsLine (take n zs) l → rest ≡ drop n zs
    → HasLine input l rest
line_at zs input rest n l same part is rest_is = record {
  text = take n zs;
  part = subst (λ (t : List ℕ). HasPart Line t (take n zs) rest) same (subst (λ (t : List ℕ). HasPart Line zs (take n zs) t) (sym rest_is) part);
  is = is;
}

pub no_line_at : (zs input : List ℕ) (ended : Type 0) (n : ℕ) → zs ≡ input → HasPart Line zs (take n zs) (drop n zs) → ((l : ChunkLine) → ¬ (IsLine (take n zs) l))
    → LacksLine input ended
no_line_at zs input ended n same part none = unparsed_line (take n zs) (drop n zs) (subst (λ (t : List ℕ). HasPart Line t (take n zs) (drop n zs)) same part) none

no_false : IsTrue false → ⊥
no_false is = let bad : false ≡ true = is in absurd cc

pub no_trailers_at : (zs input : List ℕ) (ended : Type 0) (n : ℕ) → zs ≡ input → HasPart Start zs (take n zs) (drop n zs)
    → (b : Bool) → IsTrue b ↔ IsTrailers (take n zs) → b ≡ false → LacksTrailers input ended
no_trailers_at zs input ended n same part true is miss = absurd cc
no_trailers_at zs input ended n same part false is miss =
    unparsed_trailers (take n zs) (drop n zs) (subst (λ (t : List ℕ). HasPart Start t (take n zs) (drop n zs)) same part) (λ are. no_false (is.1 are))

pub trailers_at : (zs input rest : List ℕ) (n : ℕ) → zs ≡ input → HasPart Start zs (take n zs) (drop n zs)
    → (b : Bool) → IsTrue b ↔ IsTrailers (take n zs) → b ≡ true → rest ≡ drop n zs → (text : List ℕ) × HasPart Start input text rest × IsTrailers text
trailers_at zs input rest n same part false is hit rest_is = absurd cc
trailers_at zs input rest n same part true is hit rest_is =
    (take n zs, subst (λ (t : List ℕ). HasPart Start t (take n zs) rest) same (subst (λ (t : List ℕ). HasPart Start zs (take n zs) t) (sym rest_is) part), is.0 refl)

-- a whole chunk
pub chunk_of : (old m n k : List ℕ) (l : ChunkLine) (u v w bytes : List ℕ) → HasLine (old ++ m) l u → u ++ n ≡ bytes ++ v → v ++ k ≡ line_end ++ w
    → chunk_size l ≡ length bytes → 0 < length bytes → HasChunk (old ++ (m ++ (n ++ k))) bytes w
chunk_of old m n k l u v w bytes at read end size some = record {
  line = l;
  at = subst (λ (t : List ℕ). HasLine (old ++ (m ++ (n ++ k))) l t)
      (data_rest u n k bytes v read ∙ ap (λ (t : List ℕ). bytes ++ t) end)
      (line_then old m (n ++ k) l u at);
  size = size;
  some = some;
}

pub chunks_go : (chunks : List (List ℕ)) (old m n rest : List ℕ) → HasChunks chunks (old ++ m) rest → HasChunks chunks (old ++ (m ++ n)) (rest ++ n)
chunks_go chunks old m n rest are = subst (λ (t : List ℕ). HasChunks chunks t (rest ++ n)) (append_assoc old m n) (chunks_more chunks (old ++ m) rest n are)
