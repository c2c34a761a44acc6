-- Agents by their places in the roster.
use Rattle.std.specs.Prelude.{ℕ, zero, suc, List, [], ◌∷◌, Option, bytes_eq}
use Rattle.std.specs.List.{position}
use Rattle.cluster_model.specs.Sides.{Side}

-- the place of the agent of a name
abbrev pub place_of : List ℕ → List Side → Option ℕ
place_of name ss = position (λ s. bytes_eq s.name name) ss

-- the side at a place is changed; there is none past the end
abbrev pub at_place : ℕ → (Side → Side) → List Side → List Side
at_place i change [] = []
at_place zero change (s ∷ ss) = change s ∷ ss
at_place (suc i) change (s ∷ ss) = s ∷ at_place i change ss

-- what `field` returns for the side at a place, or `none` past the end
abbrev pub value_at : {X : Type 0} → ℕ → (Side → X) → X → List Side → X
value_at i field none [] = none
value_at zero field none (s ∷ ss) = field s
value_at (suc i) field none (s ∷ ss) = value_at i field none ss
