-- What is demanded of a value, one thing after another, and the first demand that isn't met.
use Rattle.std.specs.Prelude.{◌≡◌, ◌⊎◌, ℕ, ◌≤◌, List, [], ◌∷◌, ◌++◌, length, Option, unwrap_or}
use Rattle.serde_json.specs.Data.{Data}
use Rattle.call_json.specs.Lists.{list_of}
use Rattle.call_json.specs.declared.members.fault.Member.{Member}
use Rattle.call_json.specs.declared.members.fault.Refusal.{Refusal}
use Rattle.call_json.specs.declared.members.fault.Refusal.TheVariants.{Missing, BadId, LimitExceeded}
use Rattle.call_json.specs.Values.{HasText, IsRead, HasList}

-- demands in order: what has to hold, and the refusal that is due where it doesn't
pub data Demands : Type 1 where
  nothing : Demands
  demand : Type 0 → Refusal → Demands → Demands

-- all demands of the first, and then those of the second
infixr 5 ◌&◌
abbrev pub ◌&◌ : Demands → Demands → Demands
nothing & later = later
(demand holds due rest) & later = demand holds due (rest & later)

-- the refusal is that of the first demand that isn't met: all those before it are
abbrev pub IsFirstOf : Demands → Refusal → Type 0
IsFirstOf nothing refusal = ⊥
IsFirstOf (demand holds due rest) refusal =
    (¬ holds × (refusal ≡ due)) ⊎ (holds × IsFirstOf rest refusal)

abbrev pub needs : Type 0 → Refusal → Demands
needs holds due = demand holds due nothing

-- ---- texts and lists

abbrev pub needs_text : Member → Option Data → Demands
needs_text member o = needs (HasText o) (Missing member)

abbrev pub IsReadable : {A : Type 0} → (List ℕ → Option A) → Option Data → Type 0
IsReadable {A} reads o = (x : A) × IsRead reads o x

-- a text, which reads
abbrev pub needs_read : {A : Type 0} → Member → (List ℕ → Option A) → Option Data → Demands
needs_read member reads o = needs_text member o & needs (IsReadable reads o) BadId

-- no text, or one that reads
abbrev pub may_read : {A : Type 0} → (List ℕ → Option A) → Option Data → Demands
may_read reads o = needs (¬ (HasText o) ⊎ IsReadable reads o) BadId

abbrev pub needs_list : Member → Option Data → Demands
needs_list member o = needs (HasList o) (Missing member)

-- the elements of a list that stands there
abbrev pub elements : Option Data → List Data
elements o = unwrap_or (list_of o) []

-- a list of at most so many elements
abbrev pub needs_short_list : Member → ℕ → Option Data → Demands
needs_short_list member limit o =
    needs_list member o & needs (length (elements o) ≤ limit) LimitExceeded

-- the demands of each value, one value after another
abbrev pub of_each : (Data → Demands) → List Data → Demands
of_each demands [] = nothing
of_each demands (d ∷ ds) = demands d & of_each demands ds

-- the same, where those of a value depend on the values before it
abbrev pub of_each_behind : (List Data → Data → Demands) → List Data → List Data → Demands
of_each_behind demands before [] = nothing
of_each_behind demands before (d ∷ ds) =
    demands before d & of_each_behind demands (before ++ d ∷ []) ds
