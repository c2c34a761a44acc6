-- An open stream is that of a framework that is found.
use Rattle.std.proofs.Common.{◌≡◌, Bool, true, false, cond, ◌||◌, List, [], ◌∷◌, Some, option_map, is_some, find, refl}
use Rattle.std.specs.List.{list_any}

pub some_found : {X Y : Type 0} (f : X → Y) (test : X → Bool) (xs : List X) → is_some (option_map f (find test xs)) ≡ list_any test xs
some_found f test [] = refl
some_found {X} {Y} f test (x ∷ xs) = by (test x) (some_found f test xs)
  where
    by : (b : Bool) → is_some (option_map f (find test xs)) ≡ list_any test xs → is_some (option_map f (cond b (Some x) (find test xs))) ≡ (b || list_any test xs)
    by true ih = refl
    by false ih = ih
