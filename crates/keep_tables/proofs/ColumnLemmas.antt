-- What one column tells.
use Rattle.std.proofs.Common.{◌≡◌, ◌<◌, ◌≤◌, ◌^◌, inl, inr, ℕ, suc, zero, pos, List, [], ◌∷◌, length, true, Some, None, refl, ap, arith, lt-ltb}
use Rattle.std.proofs.lemmas.Bool.{cases_lt, cases_Bool, le-leb}
use Rattle.std.proofs.Math.Logic.{∥∥₁_elim}
use mathlib.Core.Bool.{Bool-set}
use Rattle.std.specs.Str.{IsUtf8, is_utf8}
use Rattle.std.proofs.lemmas.Str.{IsUtf8-from_is_utf8, is_utf8-from_IsUtf8}
use Rattle.sqlite.specs.declared.types.Value.{Value}
use Rattle.sqlite.specs.declared.types.Value.TheVariants.{Null, Int, Real, Text, Blob}
use Rattle.sqlite.specs.Order.{Row, column}
use Rattle.quantity.specs.Rows.{greatest_amount}
use Rattle.keep_tables.specs.Columns.{amount_at, number_at, text_at}

no_text : (v : Value) → ((t : List ℕ) × (v ≡ Text t) × IsUtf8 t → ⊥) → text_at v ≡ None
no_text Null h = refl
no_text (Int n) h = refl
no_text (Real x) h = refl
no_text (Text t) h = elim (cases_Bool (is_utf8 t)) [
  | inl is ↦ absurd (h (t, refl, IsUtf8-from_is_utf8 t is))
  | inr differ ↦ rw differ refl
]
no_text (Blob b) h = refl

past : (row : Row) (at : ℕ) → length row ≤ at → column row at ≡ Null
past [] zero h = refl
past [] (suc at) h = refl
past (v ∷ row) zero h = absurd (omega arith)
past (v ∷ row) (suc at) h = past row at (omega arith)

pub text_none : (row : Row) (at : ℕ) → (at < length row → (t : List ℕ) × (column row at ≡ Text t) × IsUtf8 t → ⊥) → text_at (column row at) ≡ None
text_none row at h = elim (cases_lt at (length row)) [
  | inl within ↦ no_text (column row at) (h within)
  | inr beyond ↦ ap text_at (past row at beyond)
]

pub text_plain : (v : Value) (t : List ℕ) → v ≡ Text t → IsUtf8 t → text_at v ≡ Some t
text_plain v t is utf8 = let test = is_utf8-from_IsUtf8 t utf8 in rw (is, test) refl

pub text_some : (v : Value) (t : List ℕ) → v ≡ Text t → ∥ IsUtf8 t ∥₁ → text_at v ≡ Some t
text_some v t is utf8 = let test : is_utf8 t ≡ true = ∥∥₁_elim utf8 (Bool-set _ _) (is_utf8-from_IsUtf8 t) in rw (is, test) refl

pub number_some : (n : ℕ) → n < 2 ^ 32 → number_at (Int (pos n)) ≡ Some n
number_some n h = let test = lt-ltb n (2 ^ 32) h in rw test refl

pub amount_some : (n : ℕ) → 0 < n → n ≤ greatest_amount → amount_at (Int (pos n)) ≡ Some n
amount_some n some small = rw (lt-ltb 0 n some, le-leb n greatest_amount small) refl
