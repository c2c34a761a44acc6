-- What is told on one list of lines behind another.
use Rattle.std.proofs.Common.{◌≡◌, ℕ, ◌+◌, ◌<◌, List, [], ◌∷◌, ◌++◌, length, take, drop, get_or, Vec, Global, Option, refl, sym, ap, ◌∙◌, append_assoc}
use Rattle.std.proofs.lemmas.List.{take_more, drop_more, map-append, take-append-drop, append-nil}
use Rattle.std.specs.Io.KnownBytes.{Appends}
use Rattle.frame_record.specs.Writes.{AppendsFront}
use Rattle.frame_record.specs.Written.{front_after, front_longer}
use Rattle.frame_record.specs.Texts.{bodies}
use Rattle.frame_record.specs.Answers.{after_all, answered_texts}

module _ {S : Type 0} (answered_text : S → List ℕ → List ℕ) (after : S → List ℕ → S) where
  pub told_none : (s : S) → answered_texts answered_text after s [] ≡ []
  unfolding answered_texts
  told_none s = refl

  pub after_none : (s : S) → after_all after s [] ≡ s
  unfolding after_all
  after_none s = refl

  pub told_first : (s : S) (l : List ℕ) (ls : List (List ℕ)) → answered_texts answered_text after s (l ∷ ls) ≡ answered_text s l ++ answered_texts answered_text after (after s l) ls
  unfolding answered_texts
  told_first s l ls = refl

  pub after_first : (s : S) (l : List ℕ) (ls : List (List ℕ)) → after_all after s (l ∷ ls) ≡ after_all after (after s l) ls
  unfolding after_all
  after_first s l ls = refl

  pub answered_text-append : (s : S) (ls ms : List (List ℕ)) → answered_texts answered_text after s (ls ++ ms) ≡ answered_texts answered_text after s ls ++ answered_texts answered_text after (after_all after s ls) ms
  unfolding answered_texts after_all
  answered_text-append s [] ms = refl
  answered_text-append s (l ∷ ls) ms = ap (λ (t : List ℕ). answered_text s l ++ t) (answered_text-append (after s l) ls ms) ∙ sym (append_assoc (answered_text s l) (answered_texts answered_text after (after s l) ls) (answered_texts answered_text after (after_all after (after s l) ls) ms))

  pub after-append : (s : S) (ls ms : List (List ℕ)) → after_all after s (ls ++ ms) ≡ after_all after (after_all after s ls) ms
  unfolding after_all
  after-append s [] ms = refl
  after-append s (l ∷ ls) ms = after-append (after s l) ls ms

  -- ---- the next of a list of lines

  bodies_more : (ls : List (Vec ℕ Global)) (i : ℕ) (l : Vec ℕ Global) → i < length ls → l ≡ get_or ls i l → bodies (take (i + 1) ls) ≡ bodies (take i ls) ++ l.items ∷ []
  bodies_more ls i l lt is =
      ap bodies (take_more ls i l lt ∙ ap (λ (w : Vec ℕ Global). take i ls ++ w ∷ []) (sym is)) ∙ map-append (λ (w : Vec ℕ Global). w.items) (take i ls) (l ∷ [])

  bodies_split : (ls : List (Vec ℕ Global)) (i : ℕ) (l : Vec ℕ Global) → i < length ls → l ≡ get_or ls i l → bodies ls ≡ bodies (take i ls) ++ l.items ∷ bodies (drop (i + 1) ls)
  bodies_split ls i l lt is =
      let parts : ls ≡ take i ls ++ l ∷ drop (i + 1) ls = sym (take-append-drop i ls) ∙ ap (λ (t : List (Vec ℕ Global)). take i ls ++ t) (drop_more ls i l lt ∙ ap (λ (w : Vec ℕ Global). w ∷ drop (i + 1) ls) (sym is)) in
      ap bodies parts ∙ map-append (λ (w : Vec ℕ Global). w.items) (take i ls) (l ∷ drop (i + 1) ls)

  pub told_more : (s : S) (ls : List (Vec ℕ Global)) (i : ℕ) (l : Vec ℕ Global) → i < length ls → l ≡ get_or ls i l
      → answered_texts answered_text after s (bodies (take (i + 1) ls)) ≡ answered_texts answered_text after s (bodies (take i ls)) ++ answered_text (after_all after s (bodies (take i ls))) l.items
  told_more s ls i l lt is =
      let before = bodies (take i ls) in
      let now = after_all after s before in
      let one : answered_texts answered_text after now (l.items ∷ []) ≡ answered_text now l.items ++ [] = told_first now l.items [] ∙ ap (λ (t : List ℕ). answered_text now l.items ++ t) (told_none (after now l.items)) in
      ap (answered_texts answered_text after s) (bodies_more ls i l lt is) ∙ (answered_text-append s before (l.items ∷ []) ∙ ap (λ (t : List ℕ). answered_texts answered_text after s before ++ t) (one ∙ append-nil (answered_text now l.items)))

  pub after_more : (s : S) (ls : List (Vec ℕ Global)) (i : ℕ) (l : Vec ℕ Global) → i < length ls → l ≡ get_or ls i l
      → after_all after s (bodies (take (i + 1) ls)) ≡ after (after_all after s (bodies (take i ls))) l.items
  after_more s ls i l lt is =
      let now = after_all after s (bodies (take i ls)) in
      ap (after_all after s) (bodies_more ls i l lt is) ∙ (after-append s (bodies (take i ls)) (l.items ∷ []) ∙ (after_first now l.items [] ∙ after_none (after now l.items)))

  -- a beginning of what is told on a line, behind what is told on the lines before it, is a beginning of all
  pub front_at : (old middle new : Option (List ℕ)) (s : S) (ls : List (Vec ℕ Global)) (i : ℕ) (l : Vec ℕ Global) → i < length ls → l ≡ get_or ls i l
      → Appends old middle (answered_texts answered_text after s (bodies (take i ls))) → AppendsFront middle new (answered_text (after_all after s (bodies (take i ls))) l.items) → AppendsFront old new (answered_texts answered_text after s (bodies ls))
  front_at old middle new s ls i l lt is written front =
      let before = bodies (take i ls) in
      let now = after_all after s before in
      let others = answered_texts answered_text after (after now l.items) (bodies (drop (i + 1) ls)) in
      let whole : answered_texts answered_text after s (bodies ls) ≡ (answered_texts answered_text after s before ++ answered_text now l.items) ++ others =
      ap (answered_texts answered_text after s) (bodies_split ls i l lt is) ∙ (answered_text-append s before (l.items ∷ bodies (drop (i + 1) ls))
      ∙ (ap (λ (t : List ℕ). answered_texts answered_text after s before ++ t) (told_first now l.items (bodies (drop (i + 1) ls))) ∙ sym (append_assoc (answered_texts answered_text after s before) (answered_text now l.items) others))) in
      rw whole (front_longer old new (answered_texts answered_text after s before ++ answered_text now l.items) others (front_after old middle new (answered_texts answered_text after s before) (answered_text now l.items) written front))
