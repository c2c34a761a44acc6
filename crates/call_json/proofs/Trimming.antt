-- Strings and pieces, a step at a time, and what stays.
use Rattle.std.proofs.Common.{◌≡◌, ◌≢◌, ℕ, zero, suc, ◌+◌, ◌<◌, ◌≤◌, ◌==◌, Bool, true, false, cond, List, [], ◌∷◌, ◌++◌, drop, take, get_or, length, refl, sym, ap, ◌∙◌, subst, arith, length-drop, length-append, take-append-drop, append_assoc}
use Rattle.std.proofs.lemmas.Bool.Decides.{nat_tests}
use Rattle.std.proofs.lemmas.List.{at_drop_more, at_drop_all, append-nil, length-take, length-take-le, take_all, drop-drop}
use Rattle.std.proofs.Math.Seq.{take-add}
use Rattle.std.specs.List.{flat_map}
use Rattle.call_json.specs.Cuts.{is_token_byte}
use Rattle.call_json.specs.Trim.{string_len, piece_len, first_pieces, trimmed, trim}

step : (e : Bool) (text : List ℕ) (i total : ℕ) → i < length text → i + string_len e (drop i text) ≡ total → i + string_len e (get_or text i 0 ∷ drop (i + 1) text) ≡ total
step e text i total lt h = ap (λ (n : ℕ). i + n) (sym (at_drop_more (string_len e) text i 0 lt)) ∙ h

pub to_quote : (e : Bool) (text : List ℕ) (i total : ℕ) → i < length text → get_or text i 0 ≡ 34 → e ≡ false → i + string_len e (drop i text) ≡ total → i + 1 ≡ total
unfolding string_len
to_quote e text i total lt q f h = rw (f, q) at (step e text i total lt h)

pub to_escaped : (e : Bool) (text : List ℕ) (i total : ℕ) → i < length text → e ≡ true → i + string_len e (drop i text) ≡ total → i + 1 + string_len false (drop (i + 1) text) ≡ total
unfolding string_len
to_escaped e text i total lt t h = let k = rw t at (step e text i total lt h) in omega (arith, k)

pub to_plain : (e : Bool) (text : List ℕ) (i total : ℕ) → i < length text → e ≡ false → get_or text i 0 ≢ 34 → i + string_len e (drop i text) ≡ total → i + 1 + string_len (get_or text i 0 == 92) (drop (i + 1) text) ≡ total
unfolding string_len
to_plain e text i total lt f n h =
    let plain : get_or text i 0 == 34 ≡ false = grind (arith, nat_tests) in
    let k = rw (f, plain) at (step e text i total lt h) in
    omega (arith, k)

pub to_end : (e : Bool) (text : List ℕ) (i total : ℕ) → length text ≤ i → i ≤ length text → i + string_len e (drop i text) ≡ total → length text ≡ total
unfolding string_len
to_end e text i total ge le h =
    let k = rw (at_drop_all (string_len e) text i ge) at h in
    omega (arith, k)

by_tests : (q t : Bool) (m n : ℕ) → 0 < cond q (1 + m) (cond t (1 + n) 1)
by_tests true t m n = omega arith
by_tests false true m n = omega arith
by_tests false false m n = omega arith

pub piece_some : (b : ℕ) (bs : List ℕ) → 0 < piece_len (b ∷ bs)
piece_some b bs = by_tests (b == 34) (is_token_byte b) _ _

pub enough : (n m : ℕ) (text : List ℕ) → length text ≤ n → length text ≤ m → first_pieces n text ≡ first_pieces m text
unfolding first_pieces
enough zero zero text h k = refl
enough zero (suc m) [] h k = refl
enough zero (suc m) (b ∷ bs) h k = absurd (omega arith)
enough (suc n) zero [] h k = refl
enough (suc n) zero (b ∷ bs) h k = absurd (omega arith)
enough (suc n) (suc m) [] h k = refl
enough (suc n) (suc m) (b ∷ bs) h k =
    let text = b ∷ bs in
    let less : length (drop (piece_len text) text) ≤ length bs = omega (arith, piece_some b bs, length-drop (piece_len text) text) in
    ap (λ (ps : List (List ℕ)). take (piece_len text) text ∷ ps) (enough n m (drop (piece_len text) text) (omega arith) (omega arith))

pub trim_step : (text : List ℕ) → 0 < length text → trim text ≡ trimmed (take (piece_len text) text) ++ trim (drop (piece_len text) text)
unfolding trim first_pieces
trim_step [] h = absurd (omega arith)
trim_step (b ∷ bs) h =
    let text = b ∷ bs in
    let rest = drop (piece_len text) text in
    let less : length rest ≤ length bs = omega (arith, piece_some b bs, length-drop (piece_len text) text) in
    ap (λ (ps : List (List ℕ)). trimmed (take (piece_len text) text) ++ flat_map trimmed ps) (enough (length bs) (length rest) rest less (omega arith))

pub trim_nil : trim [] ≡ []
unfolding trim first_pieces
trim_nil = refl

pub goes_on : (out text piece total : List ℕ) → 0 < length text → piece ≡ take (piece_len text) text → out ++ trim text ≡ total → (out ++ trimmed piece) ++ trim (drop (piece_len text) text) ≡ total
goes_on out text piece total some is h =
    rw (is, append_assoc) (ap (λ (t : List ℕ). out ++ t) (sym (trim_step text some)) ∙ h)

pub at_end : (out text total : List ℕ) → true ≡ (length text == 0) → out ++ trim text ≡ total → out ≡ total
at_end out [] total e h = sym (append-nil out) ∙ (ap (λ (t : List ℕ). out ++ t) (sym trim_nil) ∙ h)
at_end out (b ∷ bs) total e h = let lie : length (b ∷ bs) ≡ 0 = grind (arith, nat_tests, e) in absurd (omega (arith, lie))

-- ---- what stays

-- a piece doesn't grow
front_within : (b : Bool) (n : ℕ) (piece : List ℕ) → length (cond b (take n piece) piece) ≤ length piece
front_within true n piece = omega (arith, length-take n piece)
front_within false n piece = omega arith

trimmed_within : (piece : List ℕ) → length (trimmed piece) ≤ length piece
unfolding trimmed
trimmed_within piece = front_within _ _ piece

-- one that isn't made shorter stays
front_stays : (b : Bool) (n : ℕ) (piece : List ℕ) → length piece ≤ length (cond b (take n piece) piece) → cond b (take n piece) piece ≡ piece
front_stays true n piece h = take_all n piece (omega (arith, h, length-take n piece))
front_stays false n piece h = refl

trimmed_stays : (piece : List ℕ) → length piece ≤ length (trimmed piece) → trimmed piece ≡ piece
unfolding trimmed
trimmed_stays piece h = front_stays _ _ piece h

parts_len : (n : ℕ) (text : List ℕ) → length (take n text) + length (drop n text) ≡ length text
parts_len n text = omega (arith, length-take n text, length-drop n text)

joined_within : (p q front rest : List ℕ) (n : ℕ) → length p ≤ length front → length q ≤ length rest → length front + length rest ≡ n → length (p ++ q) ≤ n
joined_within p q front rest n h k is = omega (arith, h, k, is, length-append p q)

-- a text doesn't grow
pieces_within : (n : ℕ) (text : List ℕ) → length (flat_map trimmed (first_pieces n text)) ≤ length text
unfolding first_pieces
pieces_within zero text = omega arith
pieces_within (suc n) [] = omega arith
pieces_within (suc n) (b ∷ bs) =
    let text = b ∷ bs in
    let front = take (piece_len text) text in
    let rest = drop (piece_len text) text in
    joined_within (trimmed front) (flat_map trimmed (first_pieces n rest)) front rest (length text) (trimmed_within front) (pieces_within n rest) (parts_len (piece_len text) text)

trim_within : (text : List ℕ) → length (trim text) ≤ length text
unfolding trim
trim_within text = pieces_within (length text) text

-- where the first piece is made shorter, the text is
pub shorter : (text piece : List ℕ) → 0 < length text → piece ≡ take (piece_len text) text → length (trimmed piece) < length piece → length (trim text) < length text
shorter text piece some is less =
    let front = take (piece_len text) text in
    let rest = drop (piece_len text) text in
    let cut : length (trimmed front) < length front = subst (λ (p : List ℕ). length (trimmed p) < length p) is less in
    omega (arith, ap length (trim_step text some), length-append (trimmed front) (trim rest), cut, trim_within rest, parts_len (piece_len text) text)

-- likewise of one behind a front that stays
pub shorter_behind : (text rest : List ℕ) (kept : ℕ) → rest ≡ drop kept text → trim text ≡ take kept text ++ trim rest → length (trim rest) < length rest → length (trim text) < length text
shorter_behind text rest kept is trims less =
    omega (arith, ap length trims, length-append (take kept text) (trim rest), less, ap length is, parts_len kept text)

-- one piece more stays
pub stays_more : (text rest piece after : List ℕ) (kept n : ℕ) → rest ≡ drop kept text → kept ≤ length text → 0 < length rest
    → n ≡ piece_len rest → n ≤ length rest → piece ≡ take n rest → after ≡ drop n rest → length piece ≤ length (trimmed piece)
    → trim text ≡ take kept text ++ trim rest
    → (after ≡ drop (kept + length piece) text) × (kept + length piece ≤ length text) × (trim text ≡ take (kept + length piece) text ++ trim after)
stays_more text rest piece after kept n is at some n_is within piece_is after_is stays trims =
    let behind = drop (piece_len rest) rest in
    let size : length piece ≡ n = ap length piece_is ∙ length-take-le n rest within in
    let piece_at : piece ≡ take (piece_len rest) rest = piece_is ∙ ap (λ (m : ℕ). take m rest) n_is in
    let after_at : after ≡ behind = after_is ∙ ap (λ (m : ℕ). drop m rest) n_is in
    let goes : trim rest ≡ piece ++ trim after =
    trim_step rest some
    ∙ ap (λ (p : List ℕ). trimmed p ++ trim behind) (sym piece_at)
    ∙ ap (λ (p : List ℕ). p ++ trim behind) (trimmed_stays piece stays)
    ∙ ap (λ (t : List ℕ). piece ++ trim t) (sym after_at) in
    let taken : take (kept + length piece) text ≡ take kept text ++ piece =
    ap (λ (m : ℕ). take (kept + m) text) size
    ∙ take-add kept n text
    ∙ ap (λ (t : List ℕ). take kept text ++ take n t) (sym is)
    ∙ ap (λ (t : List ℕ). take kept text ++ t) (sym piece_is) in (
      after_is ∙ ap (λ (t : List ℕ). drop n t) is ∙ drop-drop n kept text ∙ ap (λ (m : ℕ). drop (kept + m) text) (sym size),
      omega (arith, size, within, ap length is, length-drop kept text, at),
      trims
          ∙ ap (λ (t : List ℕ). take kept text ++ t) goes
          ∙ sym (append_assoc (take kept text) piece (trim after))
          ∙ ap (λ (t : List ℕ). t ++ trim after) (sym taken),
    )

-- where nothing is behind the front, all stays
pub all_stays : (text rest : List ℕ) (kept : ℕ) → true ≡ (length rest == 0) → rest ≡ drop kept text → trim text ≡ take kept text ++ trim (drop kept text) → text ≡ trim text
all_stays text [] kept e is trims =
    sym (take-append-drop kept text) ∙ ap (λ (t : List ℕ). take kept text ++ t) (sym is ∙ sym trim_nil ∙ ap trim is) ∙ sym trims
all_stays text (b ∷ bs) kept e is trims = let lie : length (b ∷ bs) ≡ 0 = grind (arith, nat_tests, e) in absurd (omega (arith, lie))

-- where something is behind it, not all stays
pub not_all_stays : (text rest : List ℕ) (kept : ℕ) → false ≡ (length rest == 0) → length rest + kept ≡ length text
    → (kept < length text → length (trim text) < length text) → trim text ≡ text → ⊥
not_all_stays text rest kept e is less same =
    let some : 0 < length rest = grind (arith, nat_tests, e) in
    let cut : length (trim text) < length text = less (omega (arith, some, is)) in
    omega (arith, cut, ap length same)

-- the front, and then the trimmed rest
pub made : (text front rest first second third : List ℕ) (kept : ℕ) → first ≡ [] → second ≡ first ++ front → third ≡ second ++ trim rest
    → front ≡ take kept text → rest ≡ drop kept text → trim text ≡ take kept text ++ trim (drop kept text) → third ≡ trim text
made text front rest first second third kept none has_front has_rest front_is rest_is trims =
    has_rest
    ∙ ap (λ (t : List ℕ). t ++ trim rest) (has_front ∙ ap (λ (t : List ℕ). t ++ front) none ∙ front_is)
    ∙ ap (λ (t : List ℕ). take kept text ++ trim t) rest_is
    ∙ sym trims
