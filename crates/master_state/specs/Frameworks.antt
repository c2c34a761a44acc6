-- Frameworks in the order of their ids, and changes of one of them.
use Rattle.std.specs.Prelude.{◌≡◌, ℕ, suc, Bool, true, false, ◌&&◌, if◌then◌else◌, List, [], ◌∷◌, map, length, nat_lt, slice_index_or, Option, Some, None}
use Rattle.std.specs.List.{AllByRecursion, list_all, find}
use Rattle.names_core.specs.Ids.{Numbered, same, before}
use Rattle.quantity.specs.declared.rows.Row.{Row}
use Rattle.messages.specs.declared.framework.Framework.{Framework}
use Rattle.cluster_model.specs.Masters.{put_framework, add_filter}

-- by id, none twice
abbrev pub are_ordered : List Framework → Bool
are_ordered [] = true
are_ordered (f ∷ fs) = list_all (λ g. before f.id g.id) fs && are_ordered fs

abbrev pub ids_of : List Framework → List Numbered
ids_of fs = map (λ f. f.id) fs

abbrev pub roles_of : List Framework → List (List ℕ)
roles_of fs = map (λ f. f.role) fs

-- all have this role
abbrev pub HaveRole : List ℕ → List Framework → Type 0
HaveRole role fs = AllByRecursion (λ r. r ≡ role) (roles_of fs)

-- all have the same role
abbrev pub AreOfOneRole : List Framework → Type 0
AreOfOneRole fs = (role : List ℕ) × HaveRole role fs

abbrev pub with_id : Numbered → List Framework → Option Framework
with_id id fs = find (λ f. same f.id id) fs

-- how many of the first frameworks are before an id
abbrev pub place_of : Numbered → List Framework → ℕ
place_of id [] = 0
place_of id (f ∷ fs) = if before f.id id then suc (place_of id fs) else 0

-- the framework's id is at a place
abbrev pub is_at : ℕ → Framework → List Framework → Bool
is_at place f fs = nat_lt place (length fs) && same (slice_index_or fs place f).id f.id

-- the framework of this id is changed, others stay
abbrev pub changed : (Framework → Framework) → Numbered → Framework → Framework
changed change id f = if same f.id id then change f else f

abbrev pub subscriber : Numbered → List ℕ → Numbered → ℕ → Framework
subscriber id role stream now =
    record {
      id = id;
      role = role;
      stream = Some stream;
      suppressed = false;
      last_beat = now;
      filters = [];
    }

abbrev pub without_stream : Framework → Framework
without_stream f = record f { stream = None }

abbrev pub revived : Framework → Framework
revived f = record f { suppressed = false; filters = [] }

abbrev pub suppressed : Framework → Framework
suppressed f = record f { suppressed = true }

abbrev pub with_filter : ℕ → ℕ → List ℕ → List Row → Framework → Framework
with_filter now seconds agent refused f =
    record f { filters = add_filter now seconds f.filters agent refused }

abbrev pub KeepsId : (Framework → Framework) → Type 0
KeepsId change = (f : Framework) → (change f).id ≡ f.id

abbrev pub PutsAreChanges : Type 0
PutsAreChanges =
    (change : Framework → Framework) (fs : List Framework) (id : Numbered) (f : Framework) →
    KeepsId change → are_ordered fs ≡ true → with_id id fs ≡ Some f
    → put_framework (change f) fs ≡ map (changed change id) fs
