-- What is read of an option.
use Rattle.std.proofs.Common.{◌≡◌, ◌∙◌, ◌<◌, ◌^◌, ℕ, refl, sym, subst, None, Option, Some, Ok, Err, Result}
use Rattle.std.specs.Option.{IfNone, IfSome}
use Rattle.std.specs.Str.Parse.{ParsesUnsigned}
use Rattle.clap.specs.Words.{ReadsOne, Text, one_text, rows_of}
use Rattle.clap.specs.declared.parser.matches.Found.{Found}
use Rattle.clap.proofs.WalkLemmas.{one_text-rows}
use Rattle.command_line.specs.Options.{HasNumber}

pub reads_number : {E : Type 0} (gives : Text → Result ℕ E → Type 0) (k : ℕ) → ((t : Text) (n : ℕ) → gives t (Ok n) → ParsesUnsigned {E = E} k 10 t (Ok n))
    → (f : Found) (id : Text) (found : Option Text) → one_text f id ≡ found → (r : Option ℕ) → (found ≡ None → r ≡ None)
    → ((t : Text) → found ≡ Some t → ReadsOne gives t r) → IfSome r (HasNumber k (rows_of f) id)
reads_number gives k parses f id None at r none some = rw (none refl) tt
reads_number gives k parses f id (Some t) at None none some = tt
reads_number gives k parses f id (Some t) at (Some n) none some =
    let p = parses t n (some t refl) in
    record { text = t; found = sym (one_text-rows f id) ∙ at; numeral = p.0.0; fits = rw p.1 p.0.1; value = p.1 }

pub reads_none : {E : Type 0} (gives : Text → Result ℕ E → Type 0) (k : ℕ) → ((t : Text) (e : E) → gives t (Err e) → ParsesUnsigned {E = E} k 10 t (Err e))
    → (f : Found) (id : Text) (r : Option ℕ) → ((t : Text) → one_text f id ≡ Some t → ReadsOne gives t r) → IfNone r ((n : ℕ) → HasNumber k (rows_of f) id n → ⊥)
reads_none gives k parses f id (Some m) some = tt
reads_none gives k parses f id None some = λ n has.
    let read = some has.text (one_text-rows f id ∙ has.found) in
    parses has.text read.0 read.1 (has.numeral, subst (λ m. m < 2 ^ k) has.value has.fits)

pub at_none : {X : Type 0} (P : Type 0) (r : Option X) → P → IfNone r P
at_none P None p = p
at_none P (Some x) p = tt
