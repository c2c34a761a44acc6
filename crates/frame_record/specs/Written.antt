-- What a writer took, piece by piece.
use Rattle.std.proofs.Common.{◌≡◌, ℕ, ◌+◌, List, [], ◌++◌, Option, None, Some, take, drop, refl, sym, ap, ◌∙◌, arith, append_assoc}
use Rattle.std.proofs.lemmas.List.{take-append-drop, drop-take, take-take, append-nil}
use Rattle.std.specs.Io.KnownBytes.{Appends, Keeps}
use Rattle.frame_record.specs.Writes.{AppendsFront}

pub appends_nothing : (old : Option (List ℕ)) → Appends old old []
appends_nothing None = tt
appends_nothing (Some xs) = sym (append-nil xs)

pub appends_more : (old middle new : Option (List ℕ)) (a b : List ℕ) → Appends old middle a
    → Appends middle new b → Appends old new (a ++ b)
appends_more None middle new a b h k = tt
appends_more (Some xs) None new a b h k = absurd h
appends_more (Some xs) (Some ys) None a b h k = absurd k
appends_more (Some xs) (Some ys) (Some zs) a b h k = rw (k, h) (append_assoc xs a b)

pub take_both : (m n : ℕ) (xs : List ℕ) → take (m + n) xs ≡ take m xs ++ take n (drop m xs)
take_both m n xs =
    sym (take-append-drop m (take (m + n) xs)) ∙ ap (λ (t : List ℕ). t ++ drop m (take (m + n) xs))
    (take-take m (m + n) xs (omega arith)) ∙ ap (λ (t : List ℕ). take m xs ++ t) (drop-take m n xs)

pub appends_kept : (old middle new : Option (List ℕ)) (a : List ℕ) → Appends old middle a
    → Keeps middle new → Appends old new a
appends_kept None middle new a h k = tt
appends_kept (Some xs) None new a h k = absurd h
appends_kept (Some xs) (Some ys) None a h k = absurd k
appends_kept (Some xs) (Some ys) (Some zs) a h k = k ∙ h

-- what was written of the bytes is a beginning of them
pub front_taken : (old new : Option (List ℕ)) (n : ℕ) (bytes : List ℕ)
    → Appends old new (take n bytes) → AppendsFront old new bytes
front_taken old new n bytes h = (take n bytes, drop n bytes, sym (take-append-drop n bytes), h)

pub front_kept : (old middle new : Option (List ℕ)) (n : ℕ) (bytes : List ℕ)
    → Appends old middle (take n bytes) → Keeps middle new → AppendsFront old new bytes
front_kept old middle new n bytes h k =
    front_taken old new n bytes (appends_kept old middle new (take n bytes) h k)

-- what was written whole, and then a beginning of what follows
pub front_after : (old middle new : Option (List ℕ)) (a b : List ℕ) → Appends old middle a
    → AppendsFront middle new b → AppendsFront old new (a ++ b)
front_after old middle new a b h k = (
  a ++ k.0,
  k.1,
  ap (λ (t : List ℕ). a ++ t) k.2 ∙ sym (append_assoc a k.0 k.1),
  appends_more old
      middle new a k.0 h k.3,
)

-- a beginning of the beginning
pub front_longer : (old new : Option (List ℕ)) (a b : List ℕ) → AppendsFront old new a
    → AppendsFront old new (a ++ b)
front_longer old new a b h =
    (h.0, h.1 ++ b, ap (λ (t : List ℕ). t ++ b) h.2 ∙ append_assoc h.0 h.1 b, h.3)

pub front_nothing : (old : Option (List ℕ)) (bytes : List ℕ) → AppendsFront old old bytes
front_nothing old bytes = ([], bytes, refl, appends_nothing old)
