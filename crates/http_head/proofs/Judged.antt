-- What the parser answers about a text that was cut.
use Rattle.std.proofs.Common.{◌≡◌, ◌≢◌, ℕ, ◌+◌, ◌≤◌, Bool, true, false, None, List, [], ◌∷◌, length, map, take, drop, sym, refl, subst, ap, ◌∙◌, arith, ◌⊎◌, inr, Result, Ok, Err, IfOk, IfErr}
use Rattle.std.proofs.lemmas.List.{drop_all, length-map, length-take, length-append}
use Rattle.std.proofs.lemmas.Bool.{cond-true, cond-false}
use Rattle.std.proofs.lemmas.Str.{IsUtf8-from_is_utf8, is_utf8-from_IsUtf8}
use Rattle.std.specs.Str.{IsUtf8, is_utf8}
use Rattle.httparse.proofs.ChunkLemmas.{chunk_line_unique}
use Rattle.names_core.specs.Ids.{id_of}
use Rattle.httparse.specs.declared.spans.HeaderSpan.{HeaderSpan}
use Rattle.httparse.specs.declared.spans.RequestSpans.{RequestSpans}
use Rattle.httparse.specs.Grammar.{RequestHead, ReadsRequest, ChunkLine, print_chunk_line}
use Rattle.httparse.specs.Spans.{IsRequestAt, IsChunkLineAt, span_bytes, header_bytes}
use Rattle.http_head.specs.declared.fault.RequestFault.{RequestFault}
use Rattle.http_head.specs.declared.fault.RequestFault.TheVariants.{BadHead}
use Rattle.http_head.specs.declared.plan.Plan.{Plan}
use Rattle.http_head.specs.Heads.{IsHead, IsNoHead, check_of, head_check, stream_in}
use Rattle.http_head.specs.Lines.{IsLine}

pub is_head : (text : List ℕ) (headers : List HeaderSpan) (r : RequestSpans) (h : RequestHead) → IsRequestAt text headers r h
    → r.len ≡ length text → length headers ≤ 64 → IsHead text h
is_head text headers r h at whole room = record {
  reads = subst (λ (rest : List ℕ). ReadsRequest text h rest) (ap (λ (n : ℕ). drop n text) whole ∙ drop_all (length text) text (omega arith)) at.reads;
  few = omega (arith, simp (length-map, length-take) at (ap length at.fields));
}

pub check_is : (text : List ℕ) (headers : List HeaderSpan) (r : RequestSpans) (h : RequestHead) → IsRequestAt text headers r h
    → head_check h ≡ check_of r.version (span_bytes text r.path) (span_bytes text r.method) (map (header_bytes text) (take r.headers headers))
check_is text headers r h at = rw (at.version, at.path, at.method, at.fields) refl

-- what is answered of a head that parses, in the two ways that it is stated
pub ok_judged : (r : Result Plan RequestFault) (text : List ℕ) (h : RequestHead) → IsHead text h → head_check h ≡ r → IfOk r (λ p. (x : RequestHead) × IsHead text x × (head_check x ≡ Ok p))
ok_judged (Ok p) text h is e = (h, is, e)
ok_judged (Err fault) text h is e = tt

pub err_judged : (r : Result Plan RequestFault) (text : List ℕ) (h : RequestHead) → IsHead text h → head_check h ≡ r → IfErr r (λ fault. ((fault ≡ BadHead) × IsNoHead text) ⊎ ((x : RequestHead) × IsHead text x × (head_check x ≡ Err fault)))
err_judged (Ok p) text h is e = tt
err_judged (Err fault) text h is e = inr (h, is, e)

-- a line that ends before the text does isn't the text
pub no_line : (text : List ℕ) (len size : ℕ) → ((l : ChunkLine) × IsChunkLineAt text len size l) → len ≢ length text → (l : ChunkLine) → ¬ (IsLine text l)
no_line text len size found short l is =
    let same = chunk_line_unique text found.0 l (drop len text) [] found.1.reads is in
    let none : length (drop len text) ≡ 0 = ap length same.1 in
    let whole : length text ≡ len + length (drop len text) = ap length found.1.reads.1 ∙ length-append (print_chunk_line found.0) (drop len text) ∙ ap (λ (n : ℕ). n + length (drop len text)) (sym found.1.len_is) in
    short (omega arith)

-- a stream id header whose value is no UTF-8, and one whose value is
pub stream_none : (text : List ℕ) → ¬ (IsUtf8 text) → None ≡ stream_in (text ∷ [])
stream_none text bad = by_test (is_utf8 text) refl
  where
    by_test : (t : Bool) → is_utf8 text ≡ t → None ≡ stream_in (text ∷ [])
    by_test true is = absurd (bad (IsUtf8-from_is_utf8 text is))
    by_test false is = sym (cond-false _ _ _ is)

pub stream_is : (text : List ℕ) → IsUtf8 text → stream_in (text ∷ []) ≡ id_of 83 text
stream_is text is = cond-true _ _ _ (is_utf8-from_IsUtf8 text is)
