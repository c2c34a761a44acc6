-- How two tables stand for items in lists: by its id each item with its place, and for each place
-- the ids there, in order.
use Rattle.std.specs.Prelude.{◌≡◌, zero, true, List, [], ◌∷◌, map, flat_map, is_some, Option, None, Some}
use Rattle.std.specs.Global.{Vec}
use Rattle.std.specs.List.{AllByRecursion}
use Rattle.std.specs.Map.{lookup}
use Rattle.names_core.specs.Ids.{Numbered}
use Rattle.offer_book.specs.Lists.{Located, same_id, ids_of, find, Once}

module _ {T : Type 0} where
  abbrev pub listed : Option (Located T) → List T
  listed None = []
  listed (Some e) = e.item ∷ []

  -- the items of these ids, in the order of the ids
  abbrev pub items_of : List (Numbered × Located T) → List Numbered → List T
  items_of es ks = flat_map (λ k. listed (lookup (same_id k) es)) ks

  -- the items that the tables stand for
  abbrev pub lists_of : List (Numbered × Located T) → List (Vec Numbered) → List (List T)
  lists_of es ids = map (λ v. items_of es v.items) ids

abbrev pub id_lists : List (Vec Numbered) → List (List Numbered)
id_lists ids = map (λ v. v.items) ids

-- the tables stand for these items: the ids are just theirs, an id leads to just its item and its
-- place, and no id stands twice
pub record IsTable {T : Type 0} (id : T → Numbered) (es : List (Numbered × Located T))
    (vs : List (Vec Numbered)) (l : List (List T)) : Type 0 where
  pub ids : id_lists vs ≡ map (ids_of id) l
  pub found : (k : Numbered) → lookup (same_id k) es ≡ find id k l
  pub once : Once id zero l

-- what an id leads to has it
abbrev pub HaveTheirIds : {T : Type 0} → (T → Numbered) → List (Numbered × Located T) → Type 0
HaveTheirIds {T} id es =
    (k : Numbered) (e : Located T) → lookup (same_id k) es ≡ Some e → same_id k (id e.item) ≡ true

-- each of these ids leads to an item
abbrev pub AreFound : {T : Type 0} → List (Numbered × Located T) → List Numbered → Type 0
AreFound es ks = AllByRecursion (λ k. is_some (lookup (same_id k) es) ≡ true) ks

-- items that change where they are
abbrev pub moved : {T : Type 0} → (T → T) → Located T → Located T
moved f e = record { place = e.place; item = f e.item }
