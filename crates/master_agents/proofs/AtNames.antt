-- What is told of a name is the same of the roster, of the book and of the sides.
use Rattle.std.proofs.Common.{◌≡◌, ℕ, Bool, true, false, cond, List, [], ◌∷◌, ◌++◌, flat_map, refl, ap, ◌∙◌, bytes_eq}
use Rattle.cluster_model.specs.Sides.{Side}
use Rattle.offer_tables.specs.Accounts.{Account}
use Rattle.master_agents.specs.Joined.{AreOfOne, join, joined}
use Rattle.master_agents.specs.Looks.{value_of}

pub told_joined : {X : Type 0} (name : List ℕ) (field : Side → X) (none : X) → ((s : Side) (a : Account) → field s ≡ field (join s a)) → (ss : List Side) (as_ : List Account) → AreOfOne ss as_
    → value_of name field none ss ≡ value_of name field none (joined ss as_)
told_joined name field none same [] [] one = refl
told_joined name field none same [] (a ∷ as_) one = absurd one
told_joined name field none same (s ∷ ss) [] one = absurd one
told_joined {X} name field none same (s ∷ ss) (a ∷ as_) one = by (bytes_eq s.name name) (told_joined name field none same ss as_ one.1)
  where
    by : (b : Bool) → value_of name field none ss ≡ value_of name field none (joined ss as_) → cond b (field s) (value_of name field none ss) ≡ cond b (field (join s a)) (value_of name field none (joined ss as_))
    by true ih = same s a
    by false ih = ih

pub flat_joined : {X : Type 0} (field : Side → List X) → ((s : Side) (a : Account) → field s ≡ field (join s a)) → (ss : List Side) (as_ : List Account) → AreOfOne ss as_ → flat_map field ss ≡ flat_map field (joined ss as_)
flat_joined field same [] [] one = refl
flat_joined field same [] (a ∷ as_) one = absurd one
flat_joined field same (s ∷ ss) [] one = absurd one
flat_joined field same (s ∷ ss) (a ∷ as_) one = ap (λ xs. xs ++ flat_map field ss) (same s a) ∙ ap (λ xs. field (join s a) ++ xs) (flat_joined field same ss as_ one.1)
