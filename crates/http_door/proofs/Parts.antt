-- A part is at the front of an input in one way.
use Rattle.std.proofs.Common.{◌≡◌, ℕ, ◌+◌, ◌-◌, ◌≤◌, List, ◌++◌, length, take, sym, ap, ◌∙◌, arith}
use Rattle.http_head.specs.declared.cut.Place.{Place}
use Rattle.http_head.specs.Parts.{max_part}
use Rattle.http_head.proofs.Parts.{one_part as one_text}
use Rattle.http_head.specs.Requests.{HasPart, IsOverlong, IsUnended}
use Rattle.http_head.proofs.Pieces.{grown}

pub part_one : (p : Place) (input text rest t r : List ℕ) → HasPart p input text rest → HasPart p input t r → (text ≡ t) × (rest ≡ r)
part_one p input text rest t r one other =
    one_text p text rest t r one.cut.whole other.cut.whole (sym one.joined ∙ other.joined)

pub part_within : (p : Place) (input text rest : List ℕ) → HasPart p input text rest → IsOverlong p input → ⊥
part_within p input text rest at over =
    let fits : length text ≤ max_part = at.cut.fits in
    let count = max_part - length text in
    let all : length text + count ≡ max_part = omega arith in
    let front : take max_part input ≡ text ++ take count rest =
    ap (take max_part) at.joined ∙ ap (λ (n : ℕ). take n (text ++ rest)) (sym all) ∙ grown text rest count in
    over.uncut text (take count rest) front at.cut.whole

pub part_ended : (p : Place) (input text rest : List ℕ) (ended : Type 0) → HasPart p input text rest → IsUnended p input ended → ⊥
part_ended p input text rest ended at unended = unended.uncut text rest at.joined at.cut.whole
