-- What a count of applied commands tells.
use Rattle.std.proofs.Common.{◌≡◌, ◌⊎◌, inl, inr, ℕ, ◌+◌, ◌-◌, ◌<◌, ◌≤◌, true, false, List, [], length, take, drop, refl, ap, ◌∙◌, arith}
use Rattle.std.proofs.lemmas.List.{length-drop}
use Rattle.std.proofs.lemmas.Bool.Decides.{nat_tests}
use Rattle.stream_core.specs.Links.{Link, applied, is_news, newly_applied}

news : {C : Type 0} (count : ℕ) (l : Link C) → l.known < count → count - l.known ≤ length l.waiting → is_news count l ≡ true
news count l above within = grind (arith, nat_tests)

-- the first of those that waited are given
pub newly_so : {C : Type 0} (count : ℕ) (l : Link C) (given : List C) → l.known < count → count - l.known ≤ length l.waiting → given ≡ take (count - l.known) l.waiting → given ≡ newly_applied count l
newly_so count l given above within is = is ∙ rw (news count l above within) refl

-- and the others wait
pub applied_so : {C : Type 0} (count : ℕ) (l : Link C) (left : List C) → l.known < count → count - l.known ≤ length l.waiting → left ≡ drop (count - l.known) l.waiting → record { waiting = left; known = count } ≡ applied count l
applied_so {C} count l left above within is = ap (λ (w : List C). record { waiting = w; known = count }) is ∙ rw (news count l above within) refl

-- what remains is within the numbers
pub within_numbers : {C : Type 0} (count : ℕ) (l : Link C) (left : List C) → l.known < count → count - l.known ≤ length l.waiting → l.known + length l.waiting ≤ 4294967295 → left ≡ drop (count - l.known) l.waiting → count + length left ≤ 4294967295
within_numbers count l left above within fits is =
    let size : length left ≡ length l.waiting - (count - l.known) = ap length is ∙ length-drop (count - l.known) l.waiting in
    omega (arith, above, within, fits, size)

no_news : {C : Type 0} (count : ℕ) (l : Link C) → (count ≤ l.known) ⊎ (length l.waiting < count - l.known) → is_news count l ≡ false
no_news count l (inl known) = grind (arith, nat_tests)
no_news count l (inr over) = grind (arith, nat_tests)

-- a count that tells nothing new gives none, and changes nothing
pub none_newly : {C : Type 0} (count : ℕ) (l : Link C) (given : List C) → (count ≤ l.known) ⊎ (length l.waiting < count - l.known) → given ≡ [] → given ≡ newly_applied count l
none_newly count l given old is = is ∙ rw (no_news count l old) refl

pub none_applied : {C : Type 0} (count : ℕ) (l : Link C) → (count ≤ l.known) ⊎ (length l.waiting < count - l.known) → l ≡ applied count l
none_applied count l old = rw (no_news count l old) refl
