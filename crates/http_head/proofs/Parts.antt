-- Where the search for a part's end stops, the bytes before are the part; and what begins with a part
-- is cut behind it.
use Rattle.std.proofs.Common.{◌≡◌, ◌≢◌, ◌⊎◌, inl, inr, ℕ, zero, suc, ◌+◌, ◌<◌, ◌≤◌, Bool, true, false, List, [], ◌∷◌, ◌++◌, length, take, drop, Option, Some, None, sym, refl, ap, ◌∙◌, subst, arith, append_assoc}
use Rattle.std.specs.Prelude.{◌==◌}
use Rattle.std.specs.List.{AllByRecursion, concat}
use Rattle.std.proofs.lemmas.List.{take-append-drop, length-take, length-append}
use Rattle.std.proofs.lemmas.Bool.Decides.{nat_tests}
use Rattle.http_head.specs.declared.cut.Place.{Place}
use Rattle.http_head.specs.declared.cut.Place.TheVariants.{Front, FrontCr, Inside, Start, StartCr, Line}
use Rattle.http_head.specs.Cuts.{is_last, place_after, place_behind, cut_after, cut_len}
use Rattle.http_head.specs.Parts.{IsLineText, IsEmptyLine, IsFilledLine, IsBlank, IsTrailerText, IsHeadText, IsRestAndTrailers, IsPart, LacksPart}
use Rattle.http_head.proofs.Cuts.{after_none, one_hit, one_miss, after_bounds, behind_one, behind_none}

abbrev NoFeed : List ℕ → Type 0
NoFeed bytes = AllByRecursion (λ b. b ≢ 10) bytes

-- ---- a part, byte by byte

empty_or_filled : (b : ℕ) (bytes : List ℕ) → IsEmptyLine (b ∷ bytes) → (b ≡ 10) ⊎ (b ≡ 13)
empty_or_filled b bytes (inl is) = inl (cc)
empty_or_filled b bytes (inr is) = inr (cc)

-- a line that begins with neither a line feed nor a CR isn't empty
filled_line : (b : ℕ) (line : List ℕ) → b ≢ 10 → b ≢ 13 → IsLineText line → IsFilledLine (b ∷ line)
filled_line b line no_feed no_return is = record {
  line = record { bytes = b ∷ is.bytes; no_feed = (no_feed, is.no_feed); ends = ap (λ (t : List ℕ). b ∷ t) is.ends };
  filled = λ empty. by_case (empty_or_filled b line empty);
}
  where
    by_case : (b ≡ 10) ⊎ (b ≡ 13) → ⊥
    by_case (inl feed) = no_feed feed
    by_case (inr back) = no_return back

-- nor one where a CR is followed by another byte than a line feed
filled_after : (b : ℕ) (line : List ℕ) → b ≢ 10 → IsLineText line → IsFilledLine (13 ∷ b ∷ line)
filled_after b line no_feed is = record {
  line = record { bytes = 13 ∷ b ∷ is.bytes; no_feed = ((λ bad. absurd (omega (arith, bad))), (no_feed, is.no_feed)); ends = ap (λ (t : List ℕ). 13 ∷ b ∷ t) is.ends };
  filled = bad;
}
  where
    bad : ¬ (IsEmptyLine (13 ∷ b ∷ line))
    bad (inl same) = let feed : ◌≡◌ {A = ℕ} 13 10 = cc in omega (arith, feed)
    bad (inr same) = no_feed (cc)

trailers_of : (line after : List ℕ) → IsFilledLine line → IsTrailerText after → IsTrailerText (line ++ after)
trailers_of line after filled is = record {
  lines = line ∷ is.lines;
  last = is.last;
  filled = (filled, is.filled);
  empty = is.empty;
  joined = ap (λ (t : List ℕ). line ++ t) is.joined ∙ sym (append_assoc line (concat is.lines) is.last);
}

head_of : (line after : List ℕ) → IsFilledLine line → IsTrailerText after → IsHeadText (line ++ after)
head_of line after filled is = record {
  before = [];
  lines = line ∷ is.lines;
  last = is.last;
  blank = record { lines = []; empty = tt; joined = refl };
  some = omega arith;
  filled = (filled, is.filled);
  empty = is.empty;
  joined = ap (λ (t : List ℕ). line ++ t) is.joined ∙ sym (append_assoc line (concat is.lines) is.last);
}

-- an empty line before a head
head_behind : (line text : List ℕ) → IsEmptyLine line → IsHeadText text → IsHeadText (line ++ text)
head_behind line text empty is = record {
  before = line ++ is.before;
  lines = is.lines;
  last = is.last;
  blank = record { lines = line ∷ is.blank.lines; empty = (empty, is.blank.empty); joined = ap (λ (t : List ℕ). line ++ t) is.blank.joined };
  some = is.some;
  filled = is.filled;
  empty = is.empty;
  joined = ap (λ (t : List ℕ). line ++ t) is.joined ∙ sym (append_assoc line is.before (concat is.lines ++ is.last));
}

head_then : (b : ℕ) (text : List ℕ) → b ≢ 10 → b ≢ 13 → IsRestAndTrailers text → IsHeadText (b ∷ text)
head_then b text no_feed no_return is =
    subst (λ (t : List ℕ). IsHeadText (b ∷ t)) (sym is.joined) (head_of (b ∷ is.rest) is.after (filled_line b is.rest no_feed no_return is.line) is.trailers)

head_after : (b : ℕ) (text : List ℕ) → b ≢ 10 → IsRestAndTrailers text → IsHeadText (13 ∷ b ∷ text)
head_after b text no_feed is =
    subst (λ (t : List ℕ). IsHeadText (13 ∷ b ∷ t)) (sym is.joined) (head_of (13 ∷ b ∷ is.rest) is.after (filled_after b is.rest no_feed is.line) is.trailers)

trailers_then : (b : ℕ) (text : List ℕ) → b ≢ 10 → b ≢ 13 → IsRestAndTrailers text → IsTrailerText (b ∷ text)
trailers_then b text no_feed no_return is =
    subst (λ (t : List ℕ). IsTrailerText (b ∷ t)) (sym is.joined) (trailers_of (b ∷ is.rest) is.after (filled_line b is.rest no_feed no_return is.line) is.trailers)

trailers_after : (b : ℕ) (text : List ℕ) → b ≢ 10 → IsRestAndTrailers text → IsTrailerText (13 ∷ b ∷ text)
trailers_after b text no_feed is =
    subst (λ (t : List ℕ). IsTrailerText (13 ∷ b ∷ t)) (sym is.joined) (trailers_of (13 ∷ b ∷ is.rest) is.after (filled_after b is.rest no_feed is.line) is.trailers)

trailers_end : (line : List ℕ) → IsEmptyLine line → IsTrailerText line
trailers_end line empty = record { lines = []; last = line; filled = tt; empty = empty; joined = refl }

feed_line : IsLineText (10 ∷ [])
feed_line = record { bytes = []; no_feed = tt; ends = refl }

more_line : (b : ℕ) (text : List ℕ) → b ≢ 10 → IsLineText text → IsLineText (b ∷ text)
more_line b text no_feed is = record { bytes = b ∷ is.bytes; no_feed = (no_feed, is.no_feed); ends = ap (λ (t : List ℕ). b ∷ t) is.ends }

more_rest : (b : ℕ) (text : List ℕ) → b ≢ 10 → IsRestAndTrailers text → IsRestAndTrailers (b ∷ text)
more_rest b text no_feed is = record {
  rest = b ∷ is.rest;
  after = is.after;
  line = more_line b is.rest no_feed is.line;
  trailers = is.trailers;
  joined = ap (λ (t : List ℕ). b ∷ t) is.joined;
}

rest_end : (text : List ℕ) → IsTrailerText text → IsRestAndTrailers (10 ∷ text)
rest_end text is = record { rest = 10 ∷ []; after = text; line = feed_line; trailers = is; joined = refl }

-- a byte is a line feed, a CR or another
feed_or : {G : Type 0} (b : ℕ) → (b ≡ 10 → (b == 10) ≡ true → G) → (b ≢ 10 → (b == 10) ≡ false → G) → G
feed_or {G} b feed other = by_test (b == 10) refl
  where
    by_test : (t : Bool) → (b == 10) ≡ t → G
    by_test true is = feed (grind (arith, nat_tests)) is
    by_test false is = other (λ bad. let no_way : ⊥ = grind (arith, nat_tests) in no_way) is

return_or : {G : Type 0} (b : ℕ) → (b ≡ 13 → (b == 13) ≡ true → G) → (b ≢ 13 → (b == 13) ≡ false → G) → G
return_or {G} b back other = by_test (b == 13) refl
  where
    by_test : (t : Bool) → (b == 13) ≡ t → G
    by_test true is = back (grind (arith, nat_tests)) is
    by_test false is = other (λ bad. let no_way : ⊥ = grind (arith, nat_tests) in no_way) is

-- the last byte of a part
last_byte : (place : Place) (b : ℕ) → is_last place b ≡ true → IsPart place (b ∷ [])
last_byte Front b is = absurd cc
last_byte FrontCr b is = absurd cc
last_byte Inside b is = absurd cc
last_byte Start b is = let feed : b ≡ 10 = grind (arith, nat_tests) in subst (λ (c : ℕ). IsTrailerText (c ∷ [])) (sym feed) (trailers_end (10 ∷ []) (inl refl))
last_byte StartCr b is = let feed : b ≡ 10 = grind (arith, nat_tests) in subst (λ (c : ℕ). IsTrailerText (13 ∷ c ∷ [])) (sym feed) (trailers_end (13 ∷ 10 ∷ []) (inr refl))
last_byte Line b is = let feed : b ≡ 10 = grind (arith, nat_tests) in subst (λ (c : ℕ). IsLineText (c ∷ [])) (sym feed) feed_line

-- a byte before the rest of a part
byte_before : (place : Place) (b : ℕ) (text : List ℕ) → is_last place b ≡ false → IsPart (place_after place b) text → IsPart place (b ∷ text)
byte_before Front b text is part = feed_or b
    (λ feed test. subst (λ (c : ℕ). IsHeadText (c ∷ text)) (sym feed) (head_behind (10 ∷ []) text (inl refl) (rw test at part)))
    (λ no_feed test. return_or b
    (λ back again. subst (λ (c : ℕ). IsHeadText (c ∷ text)) (sym back) (rw (test, again) at part))
    (λ no_return again. head_then b text no_feed no_return (rw (test, again) at part)))
byte_before FrontCr b text is part = feed_or b
    (λ feed test. subst (λ (c : ℕ). IsHeadText (13 ∷ c ∷ text)) (sym feed) (head_behind (13 ∷ 10 ∷ []) text (inr refl) (rw test at part)))
    (λ no_feed test. head_after b text no_feed (rw test at part))
byte_before Inside b text is part = feed_or b
    (λ feed test. subst (λ (c : ℕ). IsRestAndTrailers (c ∷ text)) (sym feed) (rest_end text (rw test at part)))
    (λ no_feed test. more_rest b text no_feed (rw test at part))
byte_before Start b text is part = return_or b
    (λ back again. subst (λ (c : ℕ). IsTrailerText (c ∷ text)) (sym back) (rw (is, again) at part))
    (λ no_return again. trailers_then b text (not_feed b is) no_return (rw (is, again) at part))
  where
    not_feed : (c : ℕ) → (c == 10) ≡ false → c ≢ 10
    not_feed c test bad = let no_way : ⊥ = grind (arith, nat_tests) in no_way
byte_before StartCr b text is part = trailers_after b text (not_feed b is) (rw is at part)
  where
    not_feed : (c : ℕ) → (c == 10) ≡ false → c ≢ 10
    not_feed c test bad = let no_way : ⊥ = grind (arith, nat_tests) in no_way
byte_before Line b text is part = more_line b text (not_feed b is) part
  where
    not_feed : (c : ℕ) → (c == 10) ≡ false → c ≢ 10
    not_feed c test bad = let no_way : ⊥ = grind (arith, nat_tests) in no_way

after_is : (n : ℕ) (place : Place) (xs : List ℕ) (m : ℕ) → cut_after n place xs ≡ Some (n + m) → IsPart place (take m xs)
after_is n place [] m is = let bad : None ≡ Some (n + m) = sym (after_none n place) ∙ is in absurd cc
after_is n place (b ∷ bs) zero is = let bounds = after_bounds n place (b ∷ bs) (n + zero) is in absurd (omega (arith, bounds.0))
after_is n place (b ∷ bs) (suc m) is = by_test (is_last place b) refl (after_is (n + 1) (place_after place b) bs m)
  where
    by_test : (t : Bool) → is_last place b ≡ t → (cut_after (n + 1) (place_after place b) bs ≡ Some ((n + 1) + m) → IsPart (place_after place b) (take m bs)) → IsPart place (b ∷ take m bs)
    by_test true hit rec =
        let same : Some (n + 1) ≡ Some (n + suc m) = sym (one_hit n place b bs hit) ∙ is in
        let count : n + 1 ≡ n + suc m = cc in
        let none : m ≡ 0 = omega (arith, count) in
        subst (λ (k : ℕ). IsPart place (b ∷ take k bs)) (sym none) (last_byte place b hit)
    by_test false miss rec =
        let shift : n + suc m ≡ (n + 1) + m = omega arith in
        byte_before place b (take m bs) miss (rec (sym (one_miss n place b bs miss) ∙ is ∙ ap (λ (k : ℕ). Some k) shift))

pub cut_is : (place : Place) (xs : List ℕ) (n : ℕ) → cut_len place xs ≡ Some n → IsPart place (take n xs)
cut_is place xs n is = after_is 0 place xs n (is ∙ ap (λ (k : ℕ). Some k) (zero_sum n))
  where
    zero_sum : (k : ℕ) → k ≡ 0 + k
    zero_sum k = omega arith

-- ---- a part is cut behind it

-- what doesn't end in a line feed's line is passed by
pass : (n : ℕ) (place : Place) (b : ℕ) (xs : List ℕ) (next : Place) → is_last place b ≡ false → place_after place b ≡ next → cut_after n place (b ∷ xs) ≡ cut_after (n + 1) next xs
pass n place b xs next miss goes = one_miss n place b xs miss ∙ ap (λ (p : Place). cut_after (n + 1) p xs) goes

inside_goes : (b : ℕ) → b ≢ 10 → place_after Inside b ≡ Inside
inside_goes b no_feed = feed_or b (λ feed test. absurd (no_feed feed)) (λ other test. rw test refl)

counted : (n k m : ℕ) (place : Place) (xs : List ℕ) → n + k ≡ m → cut_after (n + k) place xs ≡ cut_after m place xs
counted n k m place xs is = ap (λ (j : ℕ). cut_after j place xs) is

-- the rest of a line leads to the start of the next one
rest_passes : (n : ℕ) (bytes rest : List ℕ) → NoFeed bytes → cut_after n Inside ((bytes ++ 10 ∷ []) ++ rest) ≡ cut_after (n + length (bytes ++ 10 ∷ [])) Start rest
rest_passes n [] rest none = pass n Inside 10 rest Start refl refl
rest_passes n (b ∷ bytes) rest none =
    pass n Inside b ((bytes ++ 10 ∷ []) ++ rest) Inside refl (inside_goes b none.0) ∙ rest_passes (n + 1) bytes rest none.1
    ∙ ap (λ (j : ℕ). cut_after j Start rest) (omega arith)

-- where a line that isn't empty may begin
abbrev Begins : Place → Type 0
Begins place = (place ≡ Front) ⊎ (place ≡ Start)

first_byte : (n : ℕ) (place : Place) (b : ℕ) (xs : List ℕ) → Begins place → b ≢ 10 → b ≢ 13 → cut_after n place (b ∷ xs) ≡ cut_after (n + 1) Inside xs
first_byte n place b xs (inl front) no_feed no_return = feed_or b (λ feed test. absurd (no_feed feed)) (λ other test. return_or b (λ back again. absurd (no_return back))
    (λ same again. ap (λ (p : Place). cut_after n p (b ∷ xs)) front ∙ pass n Front b xs Inside refl (rw (test, again) refl)))
first_byte n place b xs (inr start) no_feed no_return = feed_or b (λ feed test. absurd (no_feed feed)) (λ other test. return_or b (λ back again. absurd (no_return back))
    (λ same again. ap (λ (p : Place). cut_after n p (b ∷ xs)) start ∙ pass n Start b xs Inside test (rw (test, again) refl)))

-- a CR and another byte than a line feed
two_bytes : (n : ℕ) (place : Place) (b : ℕ) (xs : List ℕ) → Begins place → b ≢ 10 → cut_after n place (13 ∷ b ∷ xs) ≡ cut_after (n + 2) Inside xs
two_bytes n place b xs (inl front) no_feed = feed_or b (λ feed test. absurd (no_feed feed))
    (λ other test. ap (λ (p : Place). cut_after n p (13 ∷ b ∷ xs)) front ∙ pass n Front 13 (b ∷ xs) FrontCr refl refl ∙ pass (n + 1) FrontCr b xs Inside refl (rw test refl)
    ∙ ap (λ (j : ℕ). cut_after j Inside xs) (omega arith))
two_bytes n place b xs (inr start) no_feed = feed_or b (λ feed test. absurd (no_feed feed))
    (λ other test. ap (λ (p : Place). cut_after n p (13 ∷ b ∷ xs)) start ∙ pass n Start 13 (b ∷ xs) StartCr refl refl ∙ pass (n + 1) StartCr b xs Inside test (rw test refl)
    ∙ ap (λ (j : ℕ). cut_after j Inside xs) (omega arith))

enters : (n : ℕ) (place : Place) (bytes rest : List ℕ) → Begins place → NoFeed bytes → ¬ (IsEmptyLine (bytes ++ 10 ∷ []))
    → cut_after n place ((bytes ++ 10 ∷ []) ++ rest) ≡ cut_after (n + length (bytes ++ 10 ∷ [])) Start rest
enters n place [] rest at none filled = absurd (filled (inl refl))
enters n place (b ∷ []) rest at none filled = return_or b
    (λ back again. absurd (filled (inr (ap (λ (c : ℕ). c ∷ 10 ∷ []) back))))
    (λ no_return again. first_byte n place b (10 ∷ rest) at none.0 no_return ∙ rest_passes (n + 1) [] rest tt ∙ ap (λ (j : ℕ). cut_after j Start rest) (omega arith))
enters n place (b ∷ c ∷ bytes) rest at none filled = return_or b
    (λ back again. ap (λ (d : ℕ). cut_after n place (d ∷ ((c ∷ bytes) ++ 10 ∷ []) ++ rest)) back ∙ two_bytes n place c ((bytes ++ 10 ∷ []) ++ rest) at none.1.0
    ∙ rest_passes (n + 2) bytes rest none.1.1 ∙ ap (λ (j : ℕ). cut_after j Start rest) (omega arith))
    (λ no_return again. first_byte n place b (((c ∷ bytes) ++ 10 ∷ []) ++ rest) at none.0 no_return ∙ rest_passes (n + 1) (c ∷ bytes) rest none.1
    ∙ ap (λ (j : ℕ). cut_after j Start rest) (omega arith))

filled_passes : (n : ℕ) (place : Place) (line rest : List ℕ) → Begins place → IsFilledLine line → cut_after n place (line ++ rest) ≡ cut_after (n + length line) Start rest
filled_passes n place line rest at is =
    let ends = is.line.ends in
    ap (λ (t : List ℕ). cut_after n place (t ++ rest)) ends
    ∙ enters n place is.line.bytes rest at is.line.no_feed (λ empty. is.filled (subst IsEmptyLine (sym ends) empty))
    ∙ ap (λ (t : List ℕ). cut_after (n + length t) Start rest) (sym ends)

all_pass : (n : ℕ) (lines : List (List ℕ)) (rest : List ℕ) → AllByRecursion IsFilledLine lines → cut_after n Start (concat lines ++ rest) ≡ cut_after (n + length (concat lines)) Start rest
all_pass n [] rest are = ap (λ (j : ℕ). cut_after j Start rest) (omega arith)
all_pass n (line ∷ lines) rest are =
    ap (cut_after n Start) (append_assoc line (concat lines) rest) ∙ filled_passes n Start line (concat lines ++ rest) (inr refl) are.0 ∙ all_pass (n + length line) lines rest are.1
    ∙ ap (λ (j : ℕ). cut_after j Start rest) (omega (arith, length-append line (concat lines)))

empty_ends : (n : ℕ) (line rest : List ℕ) → IsEmptyLine line → cut_after n Start (line ++ rest) ≡ Some (n + length line)
empty_ends n line rest (inl is) =
    ap (λ (t : List ℕ). cut_after n Start (t ++ rest)) is ∙ one_hit n Start 10 rest refl ∙ ap (λ (t : List ℕ). Some (n + length t)) (sym is)
empty_ends n line rest (inr is) =
    ap (λ (t : List ℕ). cut_after n Start (t ++ rest)) is ∙ pass n Start 13 (10 ∷ rest) StartCr refl refl ∙ one_hit (n + 1) StartCr 10 rest refl
    ∙ ap (λ (j : ℕ). Some j) (omega (arith, ap length is))

empty_passes : (n : ℕ) (line rest : List ℕ) → IsEmptyLine line → cut_after n Front (line ++ rest) ≡ cut_after (n + length line) Front rest
empty_passes n line rest (inl is) =
    ap (λ (t : List ℕ). cut_after n Front (t ++ rest)) is ∙ pass n Front 10 rest Front refl refl ∙ ap (λ (t : List ℕ). cut_after (n + length t) Front rest) (sym is)
empty_passes n line rest (inr is) =
    ap (λ (t : List ℕ). cut_after n Front (t ++ rest)) is ∙ pass n Front 13 (10 ∷ rest) FrontCr refl refl ∙ pass (n + 1) FrontCr 10 rest Front refl refl
    ∙ ap (λ (j : ℕ). cut_after j Front rest) (omega (arith, ap length is))

blanks_pass : (n : ℕ) (lines : List (List ℕ)) (rest : List ℕ) → AllByRecursion IsEmptyLine lines → cut_after n Front (concat lines ++ rest) ≡ cut_after (n + length (concat lines)) Front rest
blanks_pass n [] rest are = ap (λ (j : ℕ). cut_after j Front rest) (omega arith)
blanks_pass n (line ∷ lines) rest are =
    ap (cut_after n Front) (append_assoc line (concat lines) rest) ∙ empty_passes n line (concat lines ++ rest) are.0 ∙ blanks_pass (n + length line) lines rest are.1
    ∙ ap (λ (j : ℕ). cut_after j Front rest) (omega (arith, length-append line (concat lines)))

trailers_cut : (n : ℕ) (text rest : List ℕ) → IsTrailerText text → cut_after n Start (text ++ rest) ≡ Some (n + length text)
trailers_cut n text rest is =
    ap (λ (t : List ℕ). cut_after n Start (t ++ rest)) is.joined ∙ ap (cut_after n Start) (append_assoc (concat is.lines) is.last rest)
    ∙ all_pass n is.lines (is.last ++ rest) is.filled ∙ empty_ends (n + length (concat is.lines)) is.last rest is.empty
    ∙ ap (λ (j : ℕ). Some j) (omega (arith, length-append (concat is.lines) is.last, ap length is.joined))

-- behind the empty lines before it
lines_cut : (n : ℕ) (lines : List (List ℕ)) (last rest : List ℕ) → 0 < length lines → AllByRecursion IsFilledLine lines → IsEmptyLine last
    → cut_after n Front ((concat lines ++ last) ++ rest) ≡ Some (n + length (concat lines ++ last))
lines_cut n [] last rest some are empty = absurd (omega arith)
lines_cut n (line ∷ lines) last rest some are empty =
    ap (λ (t : List ℕ). cut_after n Front (t ++ rest)) (append_assoc line (concat lines) last) ∙ ap (cut_after n Front) (append_assoc line (concat lines ++ last) rest)
    ∙ filled_passes n Front line ((concat lines ++ last) ++ rest) (inl refl) are.0
    ∙ trailers_cut (n + length line) (concat lines ++ last) rest (record { lines = lines; last = last; filled = are.1; empty = empty; joined = refl })
    ∙ ap (λ (j : ℕ). Some j) (omega (arith, length-append line (concat lines ++ last), ap length (append_assoc line (concat lines) last)))

head_cut : (n : ℕ) (text rest : List ℕ) → IsHeadText text → cut_after n Front (text ++ rest) ≡ Some (n + length text)
head_cut n text rest is =
    let lines = concat is.lines ++ is.last in
    ap (λ (t : List ℕ). cut_after n Front (t ++ rest)) (is.joined ∙ ap (λ (t : List ℕ). t ++ lines) is.blank.joined)
    ∙ ap (cut_after n Front) (append_assoc (concat is.blank.lines) lines rest) ∙ blanks_pass n is.blank.lines (lines ++ rest) is.blank.empty
    ∙ lines_cut (n + length (concat is.blank.lines)) is.lines is.last rest is.some is.filled is.empty
    ∙ ap (λ (j : ℕ). Some j) (omega (arith, length-append is.before lines, ap length is.joined, ap length is.blank.joined))

rest_cut : (n : ℕ) (text rest : List ℕ) → IsRestAndTrailers text → cut_after n Inside (text ++ rest) ≡ Some (n + length text)
rest_cut n text rest is =
    ap (λ (t : List ℕ). cut_after n Inside (t ++ rest)) is.joined ∙ ap (cut_after n Inside) (append_assoc is.rest is.after rest)
    ∙ ap (λ (t : List ℕ). cut_after n Inside (t ++ (is.after ++ rest))) is.line.ends ∙ rest_passes n is.line.bytes (is.after ++ rest) is.line.no_feed
    ∙ trailers_cut (n + length (is.line.bytes ++ 10 ∷ [])) is.after rest is.trailers
    ∙ ap (λ (j : ℕ). Some j) (omega (arith, ap length is.line.ends, length-append is.rest is.after, ap length is.joined))

line_cut : (n : ℕ) (bytes rest : List ℕ) → NoFeed bytes → cut_after n Line ((bytes ++ 10 ∷ []) ++ rest) ≡ Some (n + length (bytes ++ 10 ∷ []))
line_cut n [] rest none = one_hit n Line 10 rest refl
line_cut n (b ∷ bytes) rest none = feed_or b (λ feed test. absurd (none.0 feed))
    (λ other test. pass n Line b ((bytes ++ 10 ∷ []) ++ rest) Line test refl ∙ line_cut (n + 1) bytes rest none.1 ∙ ap (λ (j : ℕ). Some j) (omega arith))

-- the count doesn't matter
shifted : (n m : ℕ) (place : Place) (xs : List ℕ) (k : ℕ) → cut_after n place xs ≡ Some (n + k) → cut_after m place xs ≡ Some (m + k)
shifted n m place [] k is = let bad : None ≡ Some (n + k) = sym (after_none n place) ∙ is in absurd cc
shifted n m place (b ∷ bs) zero is = let bounds = after_bounds n place (b ∷ bs) (n + zero) is in absurd (omega (arith, bounds.0))
shifted n m place (b ∷ bs) (suc k) is = by_test (is_last place b) refl (shifted (n + 1) (m + 1) (place_after place b) bs k)
  where
    by_test : (t : Bool) → is_last place b ≡ t → (cut_after (n + 1) (place_after place b) bs ≡ Some ((n + 1) + k) → cut_after (m + 1) (place_after place b) bs ≡ Some ((m + 1) + k))
        → cut_after m place (b ∷ bs) ≡ Some (m + suc k)
    by_test true hit rec =
        let same : Some (n + 1) ≡ Some (n + suc k) = sym (one_hit n place b bs hit) ∙ is in
        let count : n + 1 ≡ n + suc k = cc in
        one_hit m place b bs hit ∙ ap (λ (j : ℕ). Some j) (omega (arith, count))
    by_test false miss rec =
        let shift : n + suc k ≡ (n + 1) + k = omega arith in
        one_miss m place b bs miss ∙ rec (sym (one_miss n place b bs miss) ∙ is ∙ ap (λ (j : ℕ). Some j) shift) ∙ ap (λ (j : ℕ). Some j) (omega arith)

behind_return : (n : ℕ) (from next : Place) (text rest : List ℕ) → is_last from 13 ≡ false → place_after from 13 ≡ next → cut_after n from ((13 ∷ text) ++ rest) ≡ Some (n + length (13 ∷ text))
    → cut_after (n + 1) next (text ++ rest) ≡ Some ((n + 1) + length text)
behind_return n from next text rest miss goes is =
    sym (pass n from 13 (text ++ rest) next miss goes) ∙ is ∙ ap (λ (j : ℕ). Some j) (omega arith)

pub part_cut : (place : Place) (text rest : List ℕ) → IsPart place text → cut_len place (text ++ rest) ≡ Some (length text)
part_cut Front text rest is = head_cut 0 text rest is ∙ ap (λ (j : ℕ). Some j) (omega arith)
part_cut FrontCr text rest is =
    shifted 1 0 FrontCr (text ++ rest) (length text) (behind_return 0 Front FrontCr text rest refl refl (head_cut 0 (13 ∷ text) rest is)) ∙ ap (λ (j : ℕ). Some j) (omega arith)
part_cut Inside text rest is = rest_cut 0 text rest is ∙ ap (λ (j : ℕ). Some j) (omega arith)
part_cut Start text rest is = trailers_cut 0 text rest is ∙ ap (λ (j : ℕ). Some j) (omega arith)
part_cut StartCr text rest is =
    shifted 1 0 StartCr (text ++ rest) (length text) (behind_return 0 Start StartCr text rest refl refl (trailers_cut 0 (13 ∷ text) rest is)) ∙ ap (λ (j : ℕ). Some j) (omega arith)
part_cut Line text rest is =
    ap (λ (t : List ℕ). cut_len Line (t ++ rest)) is.ends ∙ line_cut 0 is.bytes rest is.no_feed ∙ ap (λ (t : List ℕ). Some (0 + length t)) (sym is.ends) ∙ ap (λ (j : ℕ). Some j) (omega arith)

-- ---- the laws

-- two texts of one length, and what follows each
pub split_one : (xs us ys vs : List ℕ) → xs ++ ys ≡ us ++ vs → length xs ≡ length us → (xs ≡ us) × (ys ≡ vs)
split_one [] [] ys vs same size = (refl, same)
split_one [] (u ∷ us) ys vs same size = absurd (omega arith)
split_one (x ∷ xs) [] ys vs same size = absurd (omega arith)
split_one (x ∷ xs) (u ∷ us) ys vs same size =
    let first : x ≡ u = cc in
    let later : xs ++ ys ≡ us ++ vs = cc in
    let rest = split_one xs us ys vs later (omega arith) in
    (ap (λ (n : ℕ). n ∷ xs) first ∙ ap (λ (t : List ℕ). u ∷ t) rest.0, rest.1)

pub one_part : (place : Place) (text rest other more : List ℕ) → IsPart place text → IsPart place other → text ++ rest ≡ other ++ more → (text ≡ other) × (rest ≡ more)
one_part place text rest other more is also same =
    let sizes : Some (length text) ≡ Some (length other) = sym (part_cut place text rest is) ∙ ap (cut_len place) same ∙ part_cut place other more also in
    let size : length text ≡ length other = cc in
    split_one text other rest more same size

pub cut_at : (place : Place) (xs : List ℕ) (n : ℕ) → n ≤ length xs → IsPart place (take n xs) → cut_len place xs ≡ Some n
cut_at place xs n within is =
    let size : length (take n xs) ≡ n = omega (arith, length-take n xs, within) in
    ap (cut_len place) (sym (take-append-drop n xs)) ∙ part_cut place (take n xs) (drop n xs) is ∙ ap (λ (j : ℕ). Some j) size

pub none_is : (place : Place) (xs : List ℕ) → cut_len place xs ≡ None → LacksPart place xs
none_is place xs none text rest joined is =
    let bad : None ≡ Some (length text) = sym none ∙ ap (cut_len place) joined ∙ part_cut place text rest is in
    absurd cc

pub none_at : (place : Place) (xs : List ℕ) → LacksPart place xs → cut_len place xs ≡ None
none_at place xs lacks = by_case (cut_len place xs) refl
  where
    by_case : (o : Option ℕ) → cut_len place xs ≡ o → cut_len place xs ≡ None
    by_case None is = is
    by_case (Some n) is = absurd (lacks (take n xs) (drop n xs) (sym (take-append-drop n xs)) (cut_is place xs n is))

-- ---- empty lines alone

-- a place behind a line that isn't empty, or in one
abbrev IsPast : Place → Type 0
IsPast Front = ⊥
IsPast FrontCr = ⊥
IsPast place = Unit {0}

past_goes : (place : Place) (b : ℕ) → IsPast place → IsPast (place_after place b)
past_goes Front b past = absurd past
past_goes FrontCr b past = absurd past
past_goes Inside b past = feed_or b (λ feed test. rw test tt) (λ other test. rw test tt)
past_goes Start b past = feed_or b (λ feed test. rw test tt) (λ other test. return_or b (λ back again. rw (test, again) tt) (λ same again. rw (test, again) tt))
past_goes StartCr b past = feed_or b (λ feed test. rw test tt) (λ other test. rw test tt)
past_goes Line b past = tt

past_stays : (place : Place) (text : List ℕ) → IsPast place → IsPast (place_behind place text)
past_stays place [] past = subst IsPast (sym (behind_none place)) past
past_stays place (b ∷ bs) past = subst IsPast (sym (behind_one place b bs)) (past_stays (place_after place b) bs (past_goes place b past))

not_front : (text : List ℕ) → place_behind Inside text ≡ Front → ⊥
not_front text is = subst IsPast is (past_stays Inside text tt)

blank_more : (line text : List ℕ) → IsEmptyLine line → IsBlank text → IsBlank (line ++ text)
blank_more line text empty is = record { lines = line ∷ is.lines; empty = (empty, is.empty); joined = ap (λ (t : List ℕ). line ++ t) is.joined }

-- the place behind one more byte
steps : (place next : Place) (b : ℕ) (bs : List ℕ) → place_after place b ≡ next → place_behind place (b ∷ bs) ≡ place_behind next bs
steps place next b bs goes = behind_one place b bs ∙ ap (λ (p : Place). place_behind p bs) goes

pub blank_is : (text : List ℕ) → place_behind Front text ≡ Front → IsBlank text
blank_is [] is = record { lines = []; empty = tt; joined = refl }
blank_is (b ∷ []) is = feed_or b
    (λ feed test. subst (λ (c : ℕ). IsBlank (c ∷ [])) (sym feed) (blank_more (10 ∷ []) [] (inl refl) (record { lines = []; empty = tt; joined = refl })))
    (λ other test. return_or b
    (λ back again. absurd (no_return (sym (behind_none FrontCr) ∙ sym (steps Front FrontCr b [] (rw (test, again) refl)) ∙ is)))
    (λ same again. absurd (not_front [] (sym (steps Front Inside b [] (rw (test, again) refl)) ∙ is))))
  where
    no_return : FrontCr ≡ Front → ⊥
    no_return bad = absurd cc
blank_is (b ∷ c ∷ bs) is = by_bytes (blank_is bs) (blank_is (c ∷ bs))
  where
    by_bytes : (place_behind Front bs ≡ Front → IsBlank bs) → (place_behind Front (c ∷ bs) ≡ Front → IsBlank (c ∷ bs)) → IsBlank (b ∷ c ∷ bs)
    by_bytes later sooner = feed_or b
        (λ feed test. subst (λ (d : ℕ). IsBlank (d ∷ c ∷ bs)) (sym feed) (blank_more (10 ∷ []) (c ∷ bs) (inl refl) (sooner (sym (steps Front Front b (c ∷ bs) (rw test refl)) ∙ is))))
        (λ other test. return_or b
        (λ back again. feed_or c
        (λ feed next. subst (λ (d : ℕ). IsBlank (d ∷ c ∷ bs)) (sym back) (subst (λ (d : ℕ). IsBlank (13 ∷ d ∷ bs)) (sym feed) (blank_more (13 ∷ 10 ∷ []) bs (inr refl)
        (later (sym (steps FrontCr Front c bs (rw next refl)) ∙ sym (steps Front FrontCr b (c ∷ bs) (rw (test, again) refl)) ∙ is)))))
        (λ other_byte next. absurd (not_front bs (sym (steps FrontCr Inside c bs (rw next refl)) ∙ sym (steps Front FrontCr b (c ∷ bs) (rw (test, again) refl)) ∙ is))))
        (λ same again. absurd (not_front (c ∷ bs) (sym (steps Front Inside b (c ∷ bs) (rw (test, again) refl)) ∙ is))))

lines_blank : (lines : List (List ℕ)) → AllByRecursion IsEmptyLine lines → place_behind Front (concat lines) ≡ Front
lines_blank [] are = behind_none Front
lines_blank (line ∷ lines) are = by_line are.0 (lines_blank lines are.1)
  where
    by_line : IsEmptyLine line → place_behind Front (concat lines) ≡ Front → place_behind Front (line ++ concat lines) ≡ Front
    by_line (inl is) rest = ap (λ (t : List ℕ). place_behind Front (t ++ concat lines)) is ∙ steps Front Front 10 (concat lines) refl ∙ rest
    by_line (inr is) rest =
        ap (λ (t : List ℕ). place_behind Front (t ++ concat lines)) is ∙ steps Front FrontCr 13 (10 ∷ concat lines) refl ∙ steps FrontCr Front 10 (concat lines) refl ∙ rest

pub blank_at : (text : List ℕ) → IsBlank text → place_behind Front text ≡ Front
blank_at text is = ap (place_behind Front) is.joined ∙ lines_blank is.lines is.empty
