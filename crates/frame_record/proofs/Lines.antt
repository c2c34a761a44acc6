-- Size lines that come in pieces.
use Rattle.std.proofs.Common.{IfOk, IfSome, MatchOption, Vec, Global, IsTrue, Result, Ok, Err, Bool, ◌==◌, ◌↔◌, subst, ◌≡◌, ℕ, ◌+◌, ◌-◌, ◌<◌, ◌≤◌, true, false, ◌^◌, List, [], ◌∷◌, ◌++◌, Option, None, Some, length, get_or, take, drop, refl, sym, ap, ◌∙◌, arith, append_assoc, add-zero, length-append, length-drop, length-take}
use Rattle.std.proofs.lemmas.List.{take-append-drop, take-take, take_all, drop_all, append-nil, drop_more, get_or-drop, take_more}
use Rattle.std.proofs.lemmas.List.Sums.{take_while-cons}
use Rattle.std.proofs.Math.Seq.{take-add}
use Rattle.std.specs.declared.alloc.AllocError.{AllocError}
use Rattle.frame_record.specs.declared.part.Pulled.{Pulled}
use Rattle.std.specs.Char.{is_ascii_digit}
use Rattle.std.specs.Str.{all_ascii_digits}
use Rattle.std.specs.Str.Parse.{digits_value}
use Rattle.std.proofs.lemmas.Bool.Decides.{nat_tests}
use Rattle.frame_record.specs.declared.fault.FrameFault.{FrameFault}
use Rattle.frame_record.specs.declared.fault.FrameFault.TheVariants.{BadSize}
use Rattle.frame_record.specs.Records.{faulty, judged, first, limit, partial, Splits}
use Rattle.frame_record.specs.Firsts.{IsOpenLine, IsSizeLine, IsUnfinished, item_of}
use Rattle.frame_record.proofs.Firsts.{digits_are_digits, digits_in_front}
use Rattle.frame_record.proofs.Splitting.{digits_step, first_of_parts, front, stop_is_no_digit, too_many}

-- ---- digits and more digits

pub all_more : (xs ys : List ℕ) → all_ascii_digits xs ≡ true → all_ascii_digits ys ≡ true → all_ascii_digits (xs ++ ys) ≡ true
all_more [] ys h k = k
all_more (x ∷ xs) ys h k = let parts = digits_step x xs h in rw parts.0 (all_more xs ys parts.1 k)

all_front : (xs ys : List ℕ) → all_ascii_digits (xs ++ ys) ≡ true → all_ascii_digits xs ≡ true
all_front [] ys h = refl
all_front (x ∷ xs) ys h = let parts = digits_step x (xs ++ ys) h in rw parts.0 (all_front xs ys parts.1)

all_taken : (n : ℕ) (xs : List ℕ) → all_ascii_digits xs ≡ true → all_ascii_digits (take n xs) ≡ true
all_taken n xs h = all_front (take n xs) (drop n xs) (rw (take-append-drop n xs) h)

front_of_digits : (xs : List ℕ) → all_ascii_digits xs ≡ true → front xs ≡ xs
front_of_digits [] h = refl
front_of_digits (x ∷ xs) h =
    let parts = digits_step x xs h in
    rw (take_while-cons is_ascii_digit x xs, parts.0) (ap (λ (t : List ℕ). x ∷ t) (front_of_digits xs parts.1))

pub front_within : (text : List ℕ) → length (front text) ≤ length text
front_within text = omega (arith, ap length (digits_in_front text), length-take (length (front text)) text)

-- ---- what a size line takes

-- digits that the line may have
pub open_more : (old bytes : List ℕ) → IsOpenLine old → length old + length (front bytes) ≤ 20 → IsOpenLine (old ++ front bytes)
open_more old bytes going short = record { short = omega (arith, length-append old (front bytes)); digits_only = all_more old (front bytes) going.digits_only (digits_are_digits bytes) }

-- a twenty-first digit
first_of_many : (text : List ℕ) → all_ascii_digits text ≡ true → 20 < length text → first text ≡ faulty BadSize
unfolding first
first_of_many text only many = too_many (front text) (drop (length (front text)) text) (rw (front_of_digits text only) many)

-- so many of the digits in front
taken_of_front : (bytes : List ℕ) (n : ℕ) → n ≤ length (front bytes) → take n (front bytes) ≡ take n bytes
taken_of_front bytes n fits = ap (take n) (sym (digits_in_front bytes)) ∙ take-take n (length (front bytes)) bytes fits

pub open_taken : (old bytes : List ℕ) (n : ℕ) → IsOpenLine old → n ≤ length (front bytes) → length old + n ≤ 20 → IsOpenLine (old ++ take n bytes)
open_taken old bytes n going fits few =
    let only : all_ascii_digits (take n bytes) ≡ true = rw (← taken_of_front bytes n fits) (all_taken n (front bytes) (digits_are_digits bytes)) in
    record {
      short = omega (arith, length-append old (take n bytes), length-take n bytes, front_within bytes);
      digits_only = all_more old (take n bytes) going.digits_only only;
    }

-- before the byte behind the digits
pub open_before : (old bytes digits : List ℕ) (k : ℕ) → k ≡ length (front bytes) → digits ≡ old ++ front bytes → IsOpenLine digits → IsOpenLine (old ++ take (k + 1 - 1) bytes)
open_before old bytes digits k is_k is going =
    let P : List ℕ → Type 0 = λ t. IsOpenLine t in
    let before : k + 1 - 1 ≡ k = omega arith in
    let digits_of : take k bytes ≡ front bytes = rw is_k (digits_in_front bytes) in
    let all : take (k + 1 - 1) bytes ≡ front bytes = ap (λ (n : ℕ). take n bytes) before ∙ digits_of in
    subst P (is ∙ ap (λ (t : List ℕ). old ++ t) (sym all)) going

pub too_long : (old bytes : List ℕ) (n : ℕ) → IsOpenLine old → n + length old ≡ 21 → n ≤ length (front bytes) → first (old ++ take n bytes) ≡ faulty BadSize
too_long old bytes n going is_n fits =
    let only : all_ascii_digits (take n bytes) ≡ true = rw (← taken_of_front bytes n fits) (all_taken n (front bytes) (digits_are_digits bytes)) in
    let size : length (old ++ take n bytes) ≡ 21 = omega (arith, length-append old (take n bytes), length-take n bytes, front_within bytes) in
    first_of_many (old ++ take n bytes) (all_more old (take n bytes) going.digits_only only) (omega arith)

-- the byte behind the digits
pub behind_digits : (bytes : List ℕ) (k : ℕ) → k ≡ length (front bytes) → k < length bytes → take (k + 1) bytes ≡ front bytes ++ get_or bytes k 0 ∷ []
behind_digits bytes k is_k inside = take_more bytes k 0 inside ∙ ap (λ (t : List ℕ). t ++ get_or bytes k 0 ∷ []) (rw is_k (digits_in_front bytes))

pub is_no_digit : (bytes : List ℕ) (k : ℕ) → k ≡ length (front bytes) → k < length bytes → is_ascii_digit (get_or bytes k 0) ≡ false
is_no_digit bytes k is_k inside = stop_is_no_digit bytes (get_or bytes k 0) (drop (k + 1) bytes) (rw (← is_k) (drop_more bytes k 0 inside))

pub ended : (old bytes : List ℕ) (k : ℕ) → k ≡ length (front bytes) → k < length bytes → (old ++ front bytes) ++ get_or bytes k 0 ∷ [] ≡ old ++ take (k + 1) bytes
ended old bytes k is_k inside = append_assoc old (front bytes) (get_or bytes k 0 ∷ []) ∙ ap (λ (t : List ℕ). old ++ t) (sym (behind_digits bytes k is_k inside))

pub first_of_ended : (digits : List ℕ) (bytes : List ℕ) (k : ℕ) → all_ascii_digits digits ≡ true → k ≡ length (front bytes) → k < length bytes
    → first (digits ++ get_or bytes k 0 ∷ []) ≡ judged digits (get_or bytes k 0 ∷ [])
first_of_ended digits bytes k only is_k inside = first_of_parts digits (get_or bytes k 0) [] only (is_no_digit bytes k is_k inside)

pub all_digits : (bytes : List ℕ) (k : ℕ) → k ≡ length (front bytes) → length bytes ≤ k → front bytes ≡ bytes
all_digits bytes k is_k all = sym (rw is_k (digits_in_front bytes)) ∙ take_all k bytes all

-- a line and the byte that ends it, as a piece brought them
pub line_taken : (old bytes digits after new : List ℕ) (k : ℕ) → k ≡ length (front bytes) → 0 < length after → after ≡ drop k bytes → digits ≡ old ++ front bytes → new ≡ digits ++ get_or after 0 0 ∷ []
    → (k + 1 ≤ length bytes) × (new ≡ old ++ take (k + 1) bytes) × (get_or after 0 0 ≡ get_or bytes k 0)
line_taken old bytes digits after new k is_k some is_after is_digits is_new =
    let inside : k < length bytes = omega (arith, ap length is_after, length-drop k bytes) in
    let stop : get_or after 0 0 ≡ get_or bytes k 0 = rw is_after (get_or-drop k bytes 0 0 ∙ rw add-zero refl) in
    (omega arith, rw (is_new, is_digits, stop) (ended old bytes k is_k inside), stop)

pub fault_taken : (old bytes digits after new : List ℕ) (k : ℕ) (f : FrameFault) → all_ascii_digits digits ≡ true → k ≡ length (front bytes) → 0 < length after → after ≡ drop k bytes → digits ≡ old ++ front bytes → new ≡ digits ++ get_or after 0 0 ∷ []
    → judged digits (get_or after 0 0 ∷ []) ≡ faulty f → (k + 1 ≤ length bytes) × (new ≡ old ++ take (k + 1) bytes) × (first new ≡ faulty f)
fault_taken old bytes digits after new k f only is_k some is_after is_digits is_new judgement =
    let taken = line_taken old bytes digits after new k is_k some is_after is_digits is_new in
    let same = ap (λ (b : ℕ). digits ++ b ∷ []) taken.2 in
    (taken.0, taken.1, ap first (is_new ∙ same) ∙ (first_of_ended digits bytes k only is_k (omega (arith, taken.0)) ∙ (ap (λ (b : ℕ). judged digits (b ∷ [])) (sym taken.2) ∙ judgement)))

-- ---- what waits is no whole record, and no fault

pub first_of_open : (line : List ℕ) → IsOpenLine line → first line ≡ partial
unfolding first
first_of_open line going =
    let same = front_of_digits line going.digits_only in
    rw (same, drop_all (length line) line (omega arith)) (let short = going.short in grind (arith, nat_tests))

judged_partly : (digits body : List ℕ) → 0 < length digits → length digits ≤ 20 → digits_value 10 digits < 2 ^ 64 → digits_value 10 digits ≤ limit → length body < digits_value 10 digits → judged digits (10 ∷ body) ≡ partial
judged_partly digits body some short fits within missing = grind (arith, nat_tests)

first_of_body : (line : List ℕ) (size : ℕ) (body : List ℕ) → IsSizeLine line size → length body < size → first (line ++ body) ≡ partial
first_of_body line size body is_line missing =
    let digits = is_line.0 in
    let is_size = is_line.1 in
    let value = is_size.value in
    let text : line ++ body ≡ digits ++ 10 ∷ body = rw is_line.2 (append_assoc digits (10 ∷ []) body) in
    let judgement = judged_partly digits body is_size.some is_size.short (rw value (omega (arith, is_size.within))) (rw value is_size.within) (rw value missing) in
    ap first text ∙ (first_of_parts digits 10 body is_size.digits_only refl ∙ judgement)

pub first_of_part : (line : List ℕ) (size : Option ℕ) (body : List ℕ) → IsUnfinished line size body → first (line ++ body) ≡ partial
first_of_part line None body stands = rw (stands.1, append-nil line) (first_of_open line stands.0)
first_of_part line (Some size) body stands = first_of_body line size body stands.0 stands.1

-- ---- a piece in two parts

taken_on : (text middle piece : List ℕ) (start taken : ℕ) → middle ≡ text ++ take start piece → start ≤ taken → middle ++ take (taken - start) (drop start piece) ≡ text ++ take taken piece
taken_on text middle piece start taken is_middle behind =
    let both : start + (taken - start) ≡ taken = omega arith in
    let whole : take taken piece ≡ take start piece ++ take (taken - start) (drop start piece) = ap (λ (n : ℕ). take n piece) (sym both) ∙ take-add start (taken - start) piece in
    rw (is_middle, whole) (append_assoc text (take start piece) (take (taken - start) (drop start piece)))

pub splits_on : (r : Result Pulled AllocError) (text middle new piece : List ℕ) (start : ℕ) → middle ≡ text ++ take start piece
    → IfOk r (λ p. (start ≤ p.taken) × (p.taken ≤ length piece)) → IfOk r (λ p. Splits (middle ++ take (p.taken - start) (drop start piece)) (item_of p.item) new)
    → IfOk r (λ p. Splits (text ++ take p.taken piece) (item_of p.item) new)
splits_on (Ok p) text middle new piece start is_middle inside splits =
    let T : List ℕ → Type 0 = λ t. Splits t (item_of p.item) new in
    subst T (taken_on text middle piece start p.taken is_middle inside.0) splits
splits_on (Err e) text middle new piece start is_middle inside splits = tt

pub no_text : (b : Bool) (n : ℕ) (line body : List ℕ) → n ≡ length line → b ≡ false → b ≡ (n == 0) → IsTrue b ↔ (line ++ body ≡ [])
no_text b n [] body is_n e h = absurd (let test : (n == 0) ≡ true = rw is_n refl in let bad : ⊥ = cc in bad)
no_text b n (x ∷ xs) body is_n e h = rw e ((λ k. absurd (let bad : ⊥ = cc in bad)), (λ k. absurd (let bad : ⊥ = cc in bad)))

pub item_ends : (o : Option (Vec ℕ Global)) (old new size start more n : ℕ) (E : Type 0) → MatchOption o (new < size) (λ i. new ≡ size) → IfSome o (λ i. E) → (new < size → start + more ≡ n) → new ≡ old + more
    → MatchOption o (start + more ≡ n) (λ i. E × (old < size → start < start + more))
item_ends None old new size start more n E whole empty all is_new = all whole
item_ends (Some v) old new size start more n E whole empty all is_new = (empty, λ short. omega (arith, whole, is_new, short))
