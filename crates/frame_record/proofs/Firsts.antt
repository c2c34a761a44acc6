-- The digits in front of a text, and what is judged by them.
use Rattle.std.proofs.Common.{◌≡◌, ℕ, ◌<◌, ◌≤◌, ◌^◌, Bool, true, false, cond, List, [], ◌∷◌, length, take, drop, refl, ap, arith}
use Rattle.std.proofs.lemmas.Bool.Decides.{nat_tests}
use Rattle.std.proofs.lemmas.Str.Parse.{IsNumeralModel, numerals_by_value, tells_all_ascii_digits}
use Rattle.std.proofs.lemmas.List.Sums.{take_while-cons}
use Rattle.std.specs.List.{take_while}
use Rattle.std.specs.Char.{is_ascii_digit}
use Rattle.std.specs.Str.{all_ascii_digits}
use Rattle.std.specs.Str.Parse.{digits_value}
use Rattle.frame_record.specs.Records.{whole, judged, limit}

pub own : IsNumeralModel (λ ds. all_ascii_digits ds ≡ true) (digits_value 10)
own = numerals_by_value _ tells_all_ascii_digits

more_digits : (c : Bool) (b : ℕ) (ds : List ℕ) → is_ascii_digit b ≡ c → all_ascii_digits ds ≡ true → all_ascii_digits (cond c (b ∷ ds) []) ≡ true
more_digits true b ds e h = rw (e, h) refl
more_digits false b ds e h = refl

more_front : (c : Bool) (b : ℕ) (bs ds : List ℕ) → take (length ds) bs ≡ ds → take (length (cond c (b ∷ ds) [])) (b ∷ bs) ≡ cond c (b ∷ ds) []
more_front true b bs ds h = ap (λ (t : List ℕ). b ∷ t) h
more_front false b bs ds h = refl

-- the digits in front are digits, and stand in front
pub digits_are_digits : (text : List ℕ) → all_ascii_digits (take_while is_ascii_digit text) ≡ true
digits_are_digits [] = refl
digits_are_digits (b ∷ bs) = rw (take_while-cons is_ascii_digit b bs) (more_digits (is_ascii_digit b) b (take_while is_ascii_digit bs) refl (digits_are_digits bs))

pub digits_in_front : (text : List ℕ) → take (length (take_while is_ascii_digit text)) text ≡ take_while is_ascii_digit text
digits_in_front [] = refl
digits_in_front (b ∷ bs) = rw (take_while-cons is_ascii_digit b bs) (more_front (is_ascii_digit b) b bs (take_while is_ascii_digit bs) (digits_in_front bs))

pub judged_whole : (digits body : List ℕ) → 0 < length digits → length digits ≤ 20 → digits_value 10 digits < 2 ^ 64 → digits_value 10 digits ≤ limit → digits_value 10 digits ≤ length body
    → judged digits (10 ∷ body) ≡ whole (take (digits_value 10 digits) body) (drop (digits_value 10 digits) body)
judged_whole digits body some short fits within enough = grind (arith, nat_tests)
