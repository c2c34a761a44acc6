-- What stands in a JSON value, and what a text there reads as.
use Rattle.std.specs.Prelude.{◌≡◌, ℕ, ◌≤◌, List, [], ◌∷◌, length, Option, None, Some, ⊤}
use Rattle.serde_json.specs.Data.{Data, unsigned, number, string, array, object, Members}
use Rattle.serde_json.specs.View.{items_of}
use Rattle.call_json.specs.MemberLookups.{member_of}

-- what stands at a path of members behind a value that may be absent
abbrev pub behind : List (List ℕ) → Option Data → Option Data
behind [] o = o
behind (name ∷ path) o = behind path (member_of name o)

-- what stands at a path of members of a value
abbrev pub at : List (List ℕ) → Data → Option Data
at path d = behind path (Some d)

-- the value is an object
abbrev pub IsObject : Data → Type 0
IsObject d = (members : Members) × (d ≡ object members)

-- a text stands there
abbrev pub IsText : Option Data → List ℕ → Type 0
IsText o text = o ≡ Some (string text)

abbrev pub HasText : Option Data → Type 0
HasText o = (text : List ℕ) × IsText o text

-- a text stands there that reads as x
abbrev pub IsRead : {A : Type 0} → (List ℕ → Option A) → Option Data → A → Type 0
IsRead reads o x = (text : List ℕ) × IsText o text × (reads text ≡ Some x)

-- no text stands there, or one that reads as x
abbrev pub IsReadOrNot : {A : Type 0} → (List ℕ → Option A) → Option Data → Option A → Type 0
IsReadOrNot reads o None = ¬ (HasText o)
IsReadOrNot reads o (Some x) = IsRead reads o x

-- a whole number stands there
abbrev pub IsWhole : Option Data → ℕ → Type 0
IsWhole o n = o ≡ Some (number (unsigned n))

-- a list of these elements stands there
abbrev pub IsList : Option Data → List Data → Type 0
IsList o ds = o ≡ Some (array (items_of ds))

abbrev pub HasList : Option Data → Type 0
HasList o = (ds : List Data) × IsList o ds

-- each value is so to the item at its place, and there are as many of both
abbrev pub EachIs : {A : Type 0} → (Data → A → Type 0) → List Data → List A → Type 0
EachIs R [] [] = ⊤
EachIs R [] (x ∷ xs) = ⊥
EachIs R (d ∷ ds) [] = ⊥
EachIs R (d ∷ ds) (x ∷ xs) = R d x × EachIs R ds xs

-- a list of at most so many elements stands there, and each is so to the item at its place
abbrev pub IsShortList : {A : Type 0} → ℕ → (Data → A → Type 0) → Option Data → List A → Type 0
IsShortList limit R o xs = (ds : List Data) × IsList o ds × (length ds ≤ limit) × EachIs R ds xs
