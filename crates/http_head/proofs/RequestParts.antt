-- Parts at the front of an input.
use Rattle.std.proofs.Common.{◌≡◌, ℕ, ◌<◌, ◌≤◌, List, ◌++◌, ◌↔◌, length, take, drop, sym, ap, ◌∙◌, arith, append_assoc}
use Rattle.std.proofs.lemmas.List.{take_all, take-append-drop, length-take, length-append}
use Rattle.http_head.specs.declared.cut.Place.{Place}
use Rattle.http_head.specs.declared.cut.Place.TheVariants.{Front}
use Rattle.http_head.specs.declared.cut.Scan.{Scan}
use Rattle.http_head.specs.Cuts.{place_behind, HasSeen}
use Rattle.http_head.specs.Parts.{max_part, IsBlank, IsPart, LacksPart}
use Rattle.http_head.proofs.Parts.{one_part, blank_is, blank_at}
use Rattle.http_head.specs.Requests.{HasPart, IsOverlong}

pub part_more : (p : Place) (input text rest more : List ℕ) → HasPart p input text rest → HasPart p (input ++ more) text (rest ++ more)
part_more p input text rest more at = record {
  joined = ap (λ (t : List ℕ). t ++ more) at.joined ∙ append_assoc text rest more;
  cut = at.cut;
}

pub part_at : (p : Place) (xs : List ℕ) (n : ℕ) → IsPart p (take n xs) → n ≤ length xs → n ≤ max_part → HasPart p xs (take n xs) (drop n xs)
part_at p xs n is within fits = record {
  joined = sym (take-append-drop n xs);
  cut = record { whole = is; fits = omega (arith, length-take n xs) };
}

-- what lacks a part lacks it in its first bytes
lacks_within : (p : Place) (xs : List ℕ) (m : ℕ) → LacksPart p xs → LacksPart p (take m xs)
lacks_within p xs m lacks text rest joined is =
    lacks text (rest ++ drop m xs) (sym (take-append-drop m xs) ∙ ap (λ (t : List ℕ). t ++ drop m xs) joined ∙ append_assoc text rest (drop m xs)) is

pub overlong_none : (p : Place) (xs : List ℕ) → LacksPart p xs → max_part < length xs → IsOverlong p xs
overlong_none p xs lacks over = record { more = over; uncut = lacks_within p xs max_part lacks }

-- a part that is longer is the only one
pub overlong_some : (p : Place) (xs : List ℕ) (n : ℕ) → IsPart p (take n xs) → n ≤ length xs → max_part < n → IsOverlong p xs
overlong_some p xs n is within over = record {
  more = omega (arith, within, over);
  uncut = λ text rest joined part.
      let whole : text ++ (rest ++ drop max_part xs) ≡ take n xs ++ drop n xs =
      sym (append_assoc text rest (drop max_part xs)) ∙ ap (λ (t : List ℕ). t ++ drop max_part xs) (sym joined) ∙ take-append-drop max_part xs ∙ sym (take-append-drop n xs) in
      let same = one_part p text (rest ++ drop max_part xs) (take n xs) (drop n xs) part is whole in
      absurd (omega (arith, ap length same.0, ap length joined, length-append text rest, length-take n xs, length-take max_part xs, within, over));
}

-- all was searched, and the input ends
pub all_searched : (scan : Scan) (p : Place) (xs : List ℕ) → HasSeen scan xs → scan.start ≡ p → scan.seen ≡ length xs → p ≡ Front → (scan.place ≡ Front) ↔ IsBlank xs
all_searched scan p xs has start all front =
    let whole : take scan.seen xs ≡ xs = take_all scan.seen xs (omega (arith, all)) in
    let at : scan.place ≡ place_behind Front xs =
    has.place ∙ ap (λ (t : List ℕ). place_behind scan.start t) whole ∙ ap (λ (q : Place). place_behind q xs) (start ∙ front) in
    ((λ is. blank_is xs (sym at ∙ is)), (λ is. at ∙ blank_at xs is))

-- what came, and then more
pub joins : (old m n middle new : List ℕ) → middle ≡ old ++ m → new ≡ middle ++ n → new ≡ old ++ (m ++ n)
joins old m n middle new first second = second ∙ ap (λ (t : List ℕ). t ++ n) first ∙ append_assoc old m n
