-- Of the booked tasks of one name, the one that is meant.
use Rattle.std.specs.Prelude.{◌≡◌, ℕ, Bool, true, false, ◌&&◌, ◌||◌, if◌then◌else◌, List, fold, Option, None, Some}
use Rattle.names_core.specs.Ids.{Numbered, before}
use Rattle.messages.specs.declared.task.Booked.{Booked}
use Rattle.offer_book.specs.Lists.{Located, find}
use Rattle.offer_book.specs.Names.{has_name}

-- of two tasks, the one that hasn't ended, then the one with the least key
abbrev pub goes_before : Booked → Booked → Bool
goes_before b c =
    if b.ended then c.ended && before b.job.key c.job.key
    else c.ended || before b.job.key c.job.key

-- a booked task of the framework with this name, at its place
pub record IsTaskOf (framework : Numbered) (text : List ℕ) (l : List (List Booked))
    (e : Located Booked) : Type 0 where
  pub booked : find (λ x. x.job.key) e.item.job.key l ≡ Some e
  pub named : has_name framework text e.item ≡ true

-- of the booked tasks of a framework with this name it is the one that no other goes before:
-- one that hasn't ended, if there is one, and of these the one with the least key;
-- none where none has the name
abbrev pub IsHeld : Numbered → List ℕ → List (List Booked) → Option (Located Booked) → Type 0
IsHeld framework text l None = (e : Located Booked) → IsTaskOf framework text l e → ⊥
IsHeld framework text l (Some e) =
    IsTaskOf framework text l e
    × ((d : Located Booked) → IsTaskOf framework text l d → goes_before d.item e.item ≡ false)

abbrev pub better : Option (Located Booked) → Option (Located Booked) → Option (Located Booked)
better None other = other
better (Some e) None = Some e
better (Some e) (Some o) = if goes_before o.item e.item then Some o else Some e

-- the same of the tasks of these keys, one after the other
abbrev pub first_of : List (List Booked) → List Numbered → Option (Located Booked)
first_of l keys = fold (λ best k. better best (find (λ x. x.job.key) k l)) None keys
