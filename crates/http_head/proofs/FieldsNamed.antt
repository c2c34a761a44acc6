-- What the first field of a name says of the values of all.
use Rattle.std.proofs.Common.{◌≡◌, ℕ, ◌+◌, ◌-◌, ◌<◌, true, false, arith, List, [], ◌∷◌, map, take, drop, length, Option, None, Some, Err, refl, sym, slice_index_or}
use Rattle.std.specs.Prelude.{MatchOption}
use Rattle.httparse.specs.declared.spans.HeaderSpan.{HeaderSpan}
use Rattle.httparse.specs.Spans.{header_bytes}
use Rattle.std.proofs.lemmas.List.{length-drop, take_all}
use Rattle.std.specs.Option.{is_some}
use Rattle.http_head.specs.Spans.{header_none}
use Rattle.http_head.specs.Heads.{body_by, values_of}
use Rattle.http_head.specs.declared.fault.RequestFault.TheVariants.{BadBody}

-- what is said of the first of these headers that has a name
abbrev pub IsFirst : List ℕ → List HeaderSpan → List ℕ → Option ℕ → Type 0
IsFirst buf headers name found =
    MatchOption found (values_of name (map (header_bytes buf) headers) ≡ [])
    (λ i. (i < length headers) × (values_of name (map (header_bytes buf) headers)
    ≡ (header_bytes buf (slice_index_or headers i header_none)).1
    ∷ values_of name (map (header_bytes buf) (drop (i + 1) headers))))

pub none_named : (buf : List ℕ) (headers : List HeaderSpan) (name : List ℕ) (found : Option ℕ) → found ≡ None → IsFirst buf headers name found → values_of name (map (header_bytes buf) headers) ≡ []
none_named buf headers name None e h = h
none_named buf headers name (Some i) e h = absurd cc

pub named_at : (buf : List ℕ) (headers : List HeaderSpan) (name : List ℕ) (found : Option ℕ) (i : ℕ) → found ≡ Some i → IsFirst buf headers name found → values_of name (map (header_bytes buf) headers) ≡ (header_bytes buf (slice_index_or headers i header_none)).1 ∷ values_of name (map (header_bytes buf) (drop (i + 1) headers))
named_at buf headers name None i e h = absurd cc
named_at buf headers name (Some j) i e h = let same : j ≡ i = cc in rw (sym same) h.1

-- where there are both kinds of length, they are refused
pub both_given : {sizes codings texts others : List (List ℕ)} {text other : List ℕ} → sizes ≡ text ∷ texts → codings ≡ other ∷ others → Err BadBody ≡ body_by sizes codings
both_given {texts = []} e f = rw (e, f) refl
both_given {texts = more ∷ texts} e f = rw e refl

tail_is : (n : ℕ) (headers : List HeaderSpan) → take (length headers - n) (drop n headers) ≡ drop n headers
tail_is n headers = take_all (length headers - n) (drop n headers) (omega (arith, length-drop n headers))

-- behind the first headers one is found, or none
pub some_behind : (buf : List ℕ) (headers : List HeaderSpan) (n : ℕ) (name : List ℕ) (found : Option ℕ) → is_some found ≡ true → IsFirst buf (take (length headers - n) (drop n headers)) name found → (text : List ℕ) × (texts : List (List ℕ)) × (values_of name (map (header_bytes buf) (drop n headers)) ≡ text ∷ texts)
some_behind buf headers n name None e h = absurd cc
some_behind buf headers n name (Some i) e h = let at = rw (tail_is n headers) at h.1 in (_, _, at)

pub none_behind : (buf : List ℕ) (headers : List HeaderSpan) (n : ℕ) (name : List ℕ) (found : Option ℕ) → is_some found ≡ false → IsFirst buf (take (length headers - n) (drop n headers)) name found → values_of name (map (header_bytes buf) (drop n headers)) ≡ []
none_behind buf headers n name None e h = rw (tail_is n headers) at h
none_behind buf headers n name (Some i) e h = absurd cc
