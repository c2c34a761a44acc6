-- A database that lists our tables is not one that lists none, two or four.
use Rattle.std.proofs.Common.{◌≡◌, ◌≢◌, List, [], ◌∷◌, Option, Some, IsSomeAnd, subst, sym}
use Rattle.std.specs.List.{AllZip}
use Rattle.sqlite.specs.Tree.{Trees}
use Rattle.sqlite.specs.Schema.{Schema}
use Rattle.sqlite_catalog.specs.Listing.{IsSound}
use Rattle.keep_tables.specs.Tables.{keeper_schema, second_schema, first_schema, no_schema}

both : {A B : Type 0} (P Q : A → B → Type 0) (xs : List A) (y : B) (ys : List B) → AllZip P xs [] → AllZip Q xs (y ∷ ys) → ⊥
both P Q [] y ys none some = some
both P Q (x ∷ xs) y ys none some = none

pub not_new : (db : Trees) (s : Schema) → IsSound keeper_schema db → IsSound s db → s ≢ no_schema
not_new db s ours sound e = both _ _ _ _ _ (subst (λ t. IsSound t db) e sound).lists.listed.tables ours.lists.listed.tables

-- a list that goes with five is longer than one that goes with fewer
module _ {A B : Type 0} (P Q : A → B → Type 0) where
  two_or_five : (xs : List A) (a b c d e f g : B) → AllZip P xs (a ∷ b ∷ []) → AllZip Q xs (c ∷ d ∷ e ∷ f ∷ g ∷ []) → ⊥
  two_or_five [] a b c d e f g few many = few
  two_or_five (x ∷ []) a b c d e f g few many = few.1
  two_or_five (x ∷ y ∷ []) a b c d e f g few many = many.1.1
  two_or_five (x ∷ y ∷ z ∷ xs) a b c d e f g few many = few.1.1

  four_or_five : (xs : List A) (a b c d e f g h i : B) → AllZip P xs (a ∷ b ∷ c ∷ d ∷ []) → AllZip Q xs (e ∷ f ∷ g ∷ h ∷ i ∷ []) → ⊥
  four_or_five [] a b c d e f g h i few many = few
  four_or_five (x ∷ []) a b c d e f g h i few many = few.1
  four_or_five (x ∷ y ∷ []) a b c d e f g h i few many = few.1.1
  four_or_five (x ∷ y ∷ z ∷ []) a b c d e f g h i few many = few.1.1.1
  four_or_five (x ∷ y ∷ z ∷ u ∷ []) a b c d e f g h i few many = many.1.1.1.1
  four_or_five (x ∷ y ∷ z ∷ u ∷ v ∷ xs) a b c d e f g h i few many = few.1.1.1.1

pub not_first : (db : Trees) (s : Schema) → IsSound keeper_schema db → IsSound s db → s ≢ first_schema
not_first db s ours sound e = two_or_five _ _ _ _ _ _ _ _ _ _ (subst (λ t. IsSound t db) e sound).lists.listed.tables ours.lists.listed.tables

pub not_second : (db : Trees) (s : Schema) → IsSound keeper_schema db → IsSound s db → s ≢ second_schema
not_second db s ours sound e = four_or_five _ _ _ _ _ _ _ _ _ _ _ _ (subst (λ t. IsSound t db) e sound).lists.listed.tables ours.lists.listed.tables

pub some_and : {X : Type 0} (o : Option X) (x : X) (P : X → Type 0) → o ≡ Some x → P x → IsSomeAnd o P
some_and {X = X} o x P is h = subst (λ (it : Option X). IsSomeAnd it P) (sym is) h
