-- What is told of the roster and of the book is told of the sides.
use Rattle.std.proofs.Common.{◌≡◌, ◌<◌, ◌≤◌, ◌+◌, arith, get_or, ℕ, zero, suc, Bool, true, false, ◌||◌, List, [], ◌∷◌, ◌++◌, length, map, cond, Option, Some, None, option_map, refl, sym, ap, ◌∙◌, bytes_eq}
use Rattle.std.specs.Prelude.{nat_lt}
use Rattle.std.specs.List.{find, list_any, position_or_len}
use Rattle.std.proofs.lemmas.List.Quantifiers.{position-Some}
use Rattle.std.proofs.lemmas.Bool.Decides.{nat_tests}
use Rattle.cluster_model.specs.Sides.{Side}
use Rattle.cluster_model.specs.Masters.{may_have_numbers, placed_on}
use Rattle.roster.specs.Places.{at_place, place_of, value_at}
use Rattle.roster.specs.Sessions.{issued_number}
use Rattle.offer_tables.specs.Accounts.{Account}
use Rattle.offer_tables.specs.Found.{place}
use Rattle.offer_tables.specs.Held as held
use Rattle.master_agents.specs.Joined.{AreOfOne, join, joined}
use Rattle.master_agents.specs.Looks.{all_placed, at_name, next_command, value_of}

-- booked tasks

pub placed_joined : (ss : List Side) (as_ : List Account) → AreOfOne ss as_ → held.all_placed as_ ≡ all_placed (joined ss as_)
placed_joined [] [] one = refl
placed_joined [] (a ∷ as_) one = absurd one
placed_joined (s ∷ ss) [] one = absurd one
placed_joined (s ∷ ss) (a ∷ as_) one =
    ap (λ n. map (place n) a.booked ++ held.all_placed as_) (sym one.0) ∙ ap (λ ps. placed_on (join s a) ++ ps) (placed_joined ss as_ one.1)

-- entries

pub numbers_joined : (count : ℕ) (name : List ℕ) (ss : List Side) (as_ : List Account) → AreOfOne ss as_
    → may_have_numbers count (find (λ s. bytes_eq s.name name) ss) ≡ may_have_numbers count (find (λ s. bytes_eq s.name name) (joined ss as_))
numbers_joined count name [] [] one = refl
numbers_joined count name [] (a ∷ as_) one = absurd one
numbers_joined count name (s ∷ ss) [] one = absurd one
numbers_joined count name (s ∷ ss) (a ∷ as_) one = by (bytes_eq s.name name) (numbers_joined count name ss as_ one.1)
  where
    by : (b : Bool) → may_have_numbers count (find (λ t. bytes_eq t.name name) ss) ≡ may_have_numbers count (find (λ t. bytes_eq t.name name) (joined ss as_))
        → may_have_numbers count (cond b (Some s) (find (λ t. bytes_eq t.name name) ss)) ≡ may_have_numbers count (cond b (Some (join s a)) (find (λ t. bytes_eq t.name name) (joined ss as_)))
    by true ih = refl
    by false ih = ih

pub any_joined : (test : Side → Bool) → ((s : Side) (a : Account) → test s ≡ test (join s a)) → (ss : List Side) (as_ : List Account) → AreOfOne ss as_ → list_any test ss ≡ list_any test (joined ss as_)
any_joined test same [] [] one = refl
any_joined test same [] (a ∷ as_) one = absurd one
any_joined test same (s ∷ ss) [] one = absurd one
any_joined test same (s ∷ ss) (a ∷ as_) one = ap (λ b. b || list_any test ss) (same s a) ∙ ap (λ b. test (join s a) || b) (any_joined test same ss as_ one.1)

pub length_joined : (ss : List Side) (as_ : List Account) → AreOfOne ss as_ → length ss ≡ length (joined ss as_)
length_joined [] [] one = refl
length_joined [] (a ∷ as_) one = absurd one
length_joined (s ∷ ss) [] one = absurd one
length_joined (s ∷ ss) (a ∷ as_) one = ap suc (length_joined ss as_ one.1)

first_joined : (name : List ℕ) (ss : List Side) (as_ : List Account) → AreOfOne ss as_ → position_or_len (λ s. bytes_eq s.name name) ss ≡ position_or_len (λ s. bytes_eq s.name name) (joined ss as_)
first_joined name [] [] one = refl
first_joined name [] (a ∷ as_) one = absurd one
first_joined name (s ∷ ss) [] one = absurd one
first_joined name (s ∷ ss) (a ∷ as_) one = by (bytes_eq s.name name) refl (first_joined name ss as_ one.1)
  where
    by : (b : Bool) → bytes_eq s.name name ≡ b → position_or_len (λ t. bytes_eq t.name name) ss ≡ position_or_len (λ t. bytes_eq t.name name) (joined ss as_)
        → position_or_len (λ t. bytes_eq t.name name) (s ∷ ss) ≡ position_or_len (λ t. bytes_eq t.name name) (join s a ∷ joined ss as_)
    by true h ih = rw h refl
    by false h ih = rw h (ap (λ n. 1 + n) ih)

pub place_joined : (name : List ℕ) (ss : List Side) (as_ : List Account) → AreOfOne ss as_ → place_of name ss ≡ place_of name (joined ss as_)
place_joined name ss as_ one =
    ap (λ n. cond (nat_lt n (length ss)) (Some n) None) (first_joined name ss as_ one)
    ∙ ap (λ l. cond (nat_lt (position_or_len (λ s. bytes_eq s.name name) (joined ss as_)) l) (Some (position_or_len (λ s. bytes_eq s.name name) (joined ss as_))) None) (length_joined ss as_ one)

-- a place and a name

first_named : (name : List ℕ) (f : Side → Side) (ss : List Side) (i : ℕ) (d : Side) → i < length ss → bytes_eq (get_or ss i d).name name ≡ true → ((k : ℕ) → k < i → bytes_eq (get_or ss k d).name name ≡ false)
    → at_place i f ss ≡ at_name name f ss
first_named name f [] i d within is before = absurd (omega arith)
first_named name f (s ∷ ss) zero d within is before = rw is refl
first_named name f (s ∷ ss) (suc i) d within is before =
    rw (before 0 (omega arith)) (ap (λ ts. s ∷ ts) (first_named name f ss i d (omega arith) is (λ k lt. before (suc k) (omega arith))))

pub named_at : (name : List ℕ) (f : Side → Side) (ss : List Side) (i : ℕ) (d : Side) → place_of name ss ≡ Some i → at_place i f ss ≡ at_name name f ss
named_at name f ss i d e =
    let first = position-Some (λ s. bytes_eq s.name name) ss i d e in
    first_named name f ss i d first.0 first.1 first.2

first_told : {X : Type 0} (name : List ℕ) (field : Side → X) (none : X) (ss : List Side) (i : ℕ) (d : Side) → i < length ss → bytes_eq (get_or ss i d).name name ≡ true → ((k : ℕ) → k < i → bytes_eq (get_or ss k d).name name ≡ false)
    → value_at i field none ss ≡ value_of name field none ss
first_told name field none [] i d within is before = absurd (omega arith)
first_told name field none (s ∷ ss) zero d within is before = rw is refl
first_told name field none (s ∷ ss) (suc i) d within is before =
    rw (before 0 (omega arith)) (first_told name field none ss i d (omega arith) is (λ k lt. before (suc k) (omega arith)))

pub told_named : {X : Type 0} (name : List ℕ) (field : Side → X) (none : X) (ss : List Side) (i : ℕ) (d : Side) → place_of name ss ≡ Some i → value_at i field none ss ≡ value_of name field none ss
told_named name field none ss i d e =
    let first = position-Some (λ s. bytes_eq s.name name) ss i d e in
    first_told name field none ss i d first.0 first.1 first.2

-- no side of a name

nowhere : (n l : ℕ) → ◌≡◌ {A = Option ℕ} (cond (nat_lt n l) (Some n) None) None → l ≤ n
nowhere n l e = by (nat_lt n l) refl e
  where
    by : (b : Bool) → nat_lt n l ≡ b → ◌≡◌ {A = Option ℕ} (cond b (Some n) None) None → l ≤ n
    by true h q = absurd cc
    by false h q = grind (arith, nat_tests)

abbrev first_of : List ℕ → List Side → ℕ
first_of name ss = position_or_len (λ s. bytes_eq s.name name) ss

none_named : (name : List ℕ) (f : Side → Side) (ss : List Side) → length ss ≤ first_of name ss → ss ≡ at_name name f ss
none_named name f [] past = refl
none_named name f (s ∷ ss) past = by (bytes_eq s.name name) refl (none_named name f ss)
  where
    by : (b : Bool) → bytes_eq s.name name ≡ b → (length ss ≤ first_of name ss → ss ≡ at_name name f ss) → s ∷ ss ≡ cond b (f s ∷ ss) (s ∷ at_name name f ss)
    by true h ih = absurd (omega (arith, rw h at past))
    by false h ih = ap (λ ts. s ∷ ts) (ih (omega (arith, rw h at past)))

none_told : {X : Type 0} (name : List ℕ) (field : Side → X) (none : X) (ss : List Side) → length ss ≤ first_of name ss → none ≡ value_of name field none ss
none_told name field none [] past = refl
none_told name field none (s ∷ ss) past = by (bytes_eq s.name name) refl (none_told name field none ss)
  where
    by : (b : Bool) → bytes_eq s.name name ≡ b → (length ss ≤ first_of name ss → none ≡ value_of name field none ss) → none ≡ cond b (field s) (value_of name field none ss)
    by true h ih = absurd (omega (arith, rw h at past))
    by false h ih = ih (omega (arith, rw h at past))

pub unnamed : (name : List ℕ) (f : Side → Side) (ss : List Side) → place_of name ss ≡ None → ss ≡ at_name name f ss
unnamed name f ss e = none_named name f ss (nowhere (first_of name ss) (length ss) e)

pub untold : {X : Type 0} (name : List ℕ) (field : Side → X) (none : X) (ss : List Side) → place_of name ss ≡ None → none ≡ value_of name field none ss
untold name field none ss e = none_told name field none ss (nowhere (first_of name ss) (length ss) e)

-- session and number of a command

next_number : (s : Side) (n : Option ℕ) → n ≡ issued_number s → option_map (λ m. (s.session, m)) n ≡ next_command s
next_number s n e = by s.is_open refl
  where
    by : (b : Bool) → s.is_open ≡ b → option_map (λ m. (s.session, m)) n ≡ next_command s
    by true h = ap (λ m. option_map (λ k. (s.session, k)) m) e ∙ rw h refl
    by false h = ap (λ m. option_map (λ k. (s.session, k)) m) e ∙ rw h refl

pub numbered : (i : ℕ) (ss : List Side) (n : Option ℕ) → n ≡ value_at i issued_number None ss → option_map (λ m. (value_at i (λ s. s.session) 0 ss, m)) n ≡ value_at i next_command None ss
numbered i [] n e = ap (λ m. option_map (λ k. (0, k)) m) e
numbered zero (s ∷ ss) n e = next_number s n e
numbered (suc i) (s ∷ ss) n e = numbered i ss n e
