-- What a reader returned, piece by piece.
use Rattle.std.proofs.Common.{◌≡◌, ℕ, List, [], ◌++◌, Option, None, Some, refl, sym, ap, ◌∙◌, append_assoc}
use Rattle.std.proofs.lemmas.List.{append-nil}
use Rattle.std.specs.Option.{IfSome}
use Rattle.std.specs.Io.KnownBytes.{Consumes, IsAtEnd}

pub consumes_nothing : (start : Option (List ℕ)) → Consumes start start []
consumes_nothing None = tt
consumes_nothing (Some xs) = refl

pub consumes_more : (start now then : Option (List ℕ)) (a b : List ℕ) → Consumes start now a
    → Consumes now then b → Consumes start then (a ++ b)
consumes_more None now then a b h k = tt
consumes_more (Some xs) None then a b h k = absurd h
consumes_more (Some xs) (Some ys) None a b h k = absurd k
consumes_more (Some xs) (Some ys) (Some zs) a b h k =
    h ∙ (ap (λ (t : List ℕ). a ++ t) k ∙ sym (append_assoc a b zs))

pub if_known : (start : Option (List ℕ)) (P : List ℕ → Type 0)
    → ((input : List ℕ) → start ≡ Some input → P input) → IfSome start P
if_known None P h = tt
if_known (Some input) P h = h input refl

pub all_consumed : (start now : Option (List ℕ)) (a input : List ℕ) → start ≡ Some input
    → Consumes start now a → IsAtEnd now → a ≡ input
all_consumed None now a input e h k = absurd (let bad : ⊥ = cc in bad)
all_consumed (Some xs) None a input e h k = absurd h
all_consumed (Some xs) (Some ys) a input e h k = let same : xs ≡ input =
    cc in sym (append-nil a) ∙ (sym (ap (λ (t : List ℕ). a ++ t) k) ∙ (sym h ∙ same))

pub some_left : (start now : Option (List ℕ)) (a input : List ℕ) → start ≡ Some input
    → Consumes start now a → (rest : List ℕ) × (input ≡ a ++ rest)
some_left None now a input e h = absurd (let bad : ⊥ = cc in bad)
some_left (Some xs) None a input e h = absurd h
some_left (Some xs) (Some ys) a input e h = let same : xs ≡ input = cc in (ys, sym same ∙ h)
