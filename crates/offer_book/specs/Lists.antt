-- Items in lists, one list for each place, and the items that have an id.
use Rattle.std.specs.Prelude.{◌≡◌, ℕ, zero, suc, Bool, ◌&&◌, ◌==◌, not, cond, List, [], ◌∷◌, map, filter, Option, None, Some}
use Rattle.std.specs.List.{IsDistinct}
use Rattle.names_core.specs.Ids.{Numbered}
pub use Rattle.offer_book.specs.declared.located.Located.{Located}

-- two ids are one
abbrev pub same_id : Numbered → Numbered → Bool
same_id i j = i.run == j.run && i.n == j.n

-- the list at a place is changed; there is none past the end
abbrev pub at_place : {X : Type 0} → ℕ → (X → X) → List X → List X
at_place p change [] = []
at_place zero change (x ∷ xs) = change x ∷ xs
at_place (suc p) change (x ∷ xs) = x ∷ at_place p change xs

-- the list at a place; past the end there is nothing
abbrev pub list_at : {X : Type 0} → ℕ → List (List X) → List X
list_at p [] = []
list_at zero (xs ∷ l) = xs
list_at (suc p) (xs ∷ l) = list_at p l

module _ {T : Type 0} (id : T → Numbered) where
  abbrev pub ids_of : List T → List Numbered
  ids_of xs = map id xs

  -- the first item of this id
  abbrev pub first : Numbered → List T → Option T
  first k [] = None
  first k (x ∷ xs) = cond (same_id k (id x)) (Some x) (first k xs)

  -- the items of other ids
  abbrev pub without : Numbered → List T → List T
  without k xs = filter (λ x. not (same_id k (id x))) xs

  -- an item, at its place
  abbrev pub located_or : ℕ → Option T → Option (Located T) → Option (Located T)
  located_or p None later = later
  located_or p (Some x) later = Some (record { place = p; item = x })

  -- the item of this id, and its place, where the first list is at place `p`
  abbrev pub find_from : ℕ → Numbered → List (List T) → Option (Located T)
  find_from p k [] = None
  find_from p k (xs ∷ l) = located_or p (first k xs) (find_from (suc p) k l)

  abbrev pub find : Numbered → List (List T) → Option (Located T)
  find k l = find_from zero k l

  -- no id stands twice
  abbrev pub Once : ℕ → List (List T) → Type 0
  Once p [] = Unit {0}
  Once p (xs ∷ l) =
      IsDistinct same_id (ids_of xs)
      × ((k : Numbered) (x : T) → first k xs ≡ Some x → find_from (suc p) k l ≡ None)
      × Once (suc p) l
