-- The answers to lines, one after another.
use Rattle.std.specs.Prelude.{◌≡◌, true, false, ℕ, List, [], ◌∷◌, ◌++◌}
use Rattle.frame_record.specs.Texts.{all_lines}

-- the answer to each line, after the lines before it
unfoldable pub answered_texts : {S : Type 0} → (S → List ℕ → List ℕ) → (S → List ℕ → S) → S
    → List (List ℕ) → List ℕ
answered_texts answered_text after s [] = []
answered_texts answered_text after s (l ∷ ls) =
    answered_text s l ++ answered_texts answered_text after (after s l) ls

unfoldable pub after_all : {S : Type 0} → (S → List ℕ → S) → S → List (List ℕ) → S
after_all after s [] = s
after_all after s (l ∷ ls) = after_all after (after s l) ls

-- the answer to a text: to each of its lines, and at its end
abbrev pub answer : {S : Type 0} → (S → List ℕ → List ℕ) → (S → List ℕ → S) → (S → List ℕ) → S
    → List ℕ → List ℕ
answer answered_text after ending s text =
    answered_texts answered_text after s (all_lines text)
    ++ ending (after_all after s (all_lines text))

pub never : {A : Type 0} → true ≡ false → A
never e = cc
