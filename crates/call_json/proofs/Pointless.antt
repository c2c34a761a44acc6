-- A text without a point stays.
use Rattle.std.proofs.Common.{◌≡◌, ℕ, zero, suc, ◌≤◌, Bool, true, false, not, cond, List, [], ◌∷◌, ◌++◌, drop, take, length, refl, sym, ap, ◌∙◌, arith, length-drop, take-append-drop}
use Rattle.std.proofs.lemmas.Bool.{and_parts}
use Rattle.std.proofs.lemmas.List.{take_all}
use Rattle.std.proofs.lemmas.List.Folds.{list_all-append}
use Rattle.std.specs.List.{prefix_len}
use Rattle.call_json.specs.Trim.{is_point, lacks_point, piece_len, trimmed, trim}
use Rattle.call_json.proofs.Trimming.{piece_some, trim_step, trim_nil}

-- its first point stands nowhere
all_before : (bs : List ℕ) → lacks_point bs ≡ true → length bs ≤ prefix_len (λ b. not (is_point b)) bs
all_before [] h = omega arith
all_before (b ∷ bs) h =
    let both = and_parts (not (is_point b)) (lacks_point bs) h in
    rw (both.0) (omega (arith, all_before bs both.1))

either_way : (b : Bool) (n : ℕ) (piece : List ℕ) → length piece ≤ n → cond b (take n piece) piece ≡ piece
either_way true n piece h = take_all n piece h
either_way false n piece h = refl

piece_stays : (piece : List ℕ) → lacks_point piece ≡ true → trimmed piece ≡ piece
unfolding trimmed
piece_stays piece h = either_way _ _ piece (all_before piece h)

-- of two parts each lacks one
parts_lack : (n : ℕ) (text : List ℕ) → lacks_point text ≡ true → (lacks_point (take n text) ≡ true) × (lacks_point (drop n text) ≡ true)
parts_lack n text h =
    and_parts (lacks_point (take n text)) (lacks_point (drop n text))
    (sym (list_all-append (λ b. not (is_point b)) (take n text) (drop n text)) ∙ ap lacks_point (take-append-drop n text) ∙ h)

stays_within : (n : ℕ) (text : List ℕ) → length text ≤ n → lacks_point text ≡ true → trim text ≡ text
stays_within n [] le h = trim_nil
stays_within zero (b ∷ bs) le h = absurd (omega (arith, le))
stays_within (suc n) (b ∷ bs) le h =
    let text = b ∷ bs in
    let front = take (piece_len text) text in
    let rest = drop (piece_len text) text in
    let lack = parts_lack (piece_len text) text h in
    let less : length rest ≤ n = omega (arith, le, piece_some b bs, length-drop (piece_len text) text) in
    trim_step text (omega arith)
    ∙ ap (λ (p : List ℕ). p ++ trim rest) (piece_stays front lack.0)
    ∙ ap (λ (t : List ℕ). front ++ t) (stays_within n rest less lack.1)
    ∙ take-append-drop (piece_len text) text

pub stays : (text : List ℕ) → lacks_point text ≡ true → trim text ≡ text
stays text h = stays_within (length text) text (omega arith) h
