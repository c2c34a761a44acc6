-- A chunk in its parts.
use Rattle.std.proofs.Common.{◌≡◌, ℕ, ◌+◌, false, List, [], ◌∷◌, ◌++◌, length, sym, ap, ◌∙◌, arith, append_assoc}
use Rattle.std.proofs.lemmas.List.{length-append}
use Rattle.std.specs.Prelude.{decimal}
use Rattle.std.specs.Fmt.{digits}
use Rattle.http_head.specs.Responses.{event_chunk, chunk_line, record_line}

size_is : (d text : List ℕ) → length (d ++ 10 ∷ text) ≡ length (d ++ 10 ∷ []) + length text
size_is d text = omega (arith, length-append d (10 ∷ text), length-append d (10 ∷ []))

pub in_parts : (text : List ℕ) → event_chunk text ≡ chunk_line (length text) ++ (record_line (length text) ++ (text ++ 13 ∷ 10 ∷ []))
unfolding event_chunk
in_parts text =
    let d = decimal (length text) in
    let e = 13 ∷ 10 ∷ [] in
    let n = length (d ++ 10 ∷ []) + length text in
    ap (λ (m : ℕ). digits 16 false m ++ (13 ∷ 10 ∷ ((d ++ 10 ∷ text) ++ e))) (size_is d text)
    ∙ ap (λ (t : List ℕ). digits 16 false n ++ (13 ∷ 10 ∷ t)) (append_assoc d (10 ∷ text) e ∙ sym (append_assoc d (10 ∷ []) (text ++ e)))
    ∙ sym (append_assoc (digits 16 false n) e ((d ++ 10 ∷ []) ++ (text ++ e)))
