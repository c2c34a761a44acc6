-- A beginning of what stands behind a text, and bytes that are read behind others.
use Rattle.std.proofs.Common.{◌≡◌, ℕ, ◌+◌, ◌≤◌, List, ◌++◌, length, take, drop, Option, Some, None, sym, ap, ◌∙◌, append_assoc}
use Rattle.std.proofs.lemmas.List.{take-append-drop, take-append-le, take_all, length-take-le}
use Rattle.std.proofs.Math.Seq.{take-append_seam, take-add, drop-append_seam}
use Rattle.std.specs.Option.{IfSome}
use borrow.Rule.Slice.PartMut.{put_mid, post_of}

pub grown : (xs piece : List ℕ) (count : ℕ) → take (length xs + count) (xs ++ piece) ≡ xs ++ take count piece
grown xs piece count =
    take-add (length xs) count (xs ++ piece)
    ∙ ap (λ (t : List ℕ). t ++ take count (drop (length xs) (xs ++ piece))) (take-append_seam xs piece)
    ∙ ap (λ (t : List ℕ). xs ++ take count t) (drop-append_seam xs piece)

-- the first bytes are moved behind those that were taken, and then more comes
pub moved : (old more later got u new : List ℕ) (n : ℕ) → old ++ more ≡ got ++ u → new ≡ drop n u ++ later → old ++ (more ++ later) ≡ (got ++ take n u) ++ new
moved old more later got u new n is new_is =
    sym (append_assoc old more later)
    ∙ ap (λ (t : List ℕ). t ++ later) is
    ∙ append_assoc got u later
    ∙ ap (λ (t : List ℕ). got ++ (t ++ later)) (sym (take-append-drop n u))
    ∙ ap (λ (t : List ℕ). got ++ t) (append_assoc (take n u) (drop n u) later)
    ∙ sym (append_assoc got (take n u) (drop n u ++ later))
    ∙ ap (λ (t : List ℕ). (got ++ take n u) ++ t) (sym new_is)

-- what was read is written behind the front
pub came_behind : (reads : List ℕ → Type 0) (r : Option ℕ) (xs ys : List ℕ) (front k : ℕ) → front ≤ length xs
    → IfSome r (λ n. n ≤ length ys) → IfSome r (λ n. reads (take n ys))
    → IfSome r (λ n. (more : List ℕ) × reads more × (length more ≡ n) × (take (front + n) (put_mid front k xs ys) ≡ take front xs ++ more))
came_behind reads None xs ys front k at within got = tt
came_behind reads (Some n) xs ys front k at within got = (
  take n ys,
  got,
  length-take-le n ys within,
  ap (λ (m : ℕ). take (m + n) (put_mid front k xs ys)) (sym (length-take-le front xs at))
      ∙ grown (take front xs) (ys ++ post_of front k xs) n
      ∙ ap (λ (t : List ℕ). take front xs ++ t) (take-append-le n ys (post_of front k xs) within),
)

-- the front of bytes that were filled up is what they were
pub filled_front : (old all filling : List ℕ) (front n : ℕ) → front ≡ length old → length old ≤ n → all ≡ take n old ++ filling → take front all ≡ old
filled_front old all filling front n len fits is =
    ap (λ (m : ℕ). take m all) len
    ∙ ap (λ (t : List ℕ). take (length old) t) (is ∙ ap (λ (t : List ℕ). t ++ filling) (take_all n old fits))
    ∙ take-append_seam old filling
