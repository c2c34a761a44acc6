-- A text is the name that it names.
use Rattle.std.proofs.Common.{◌≡◌, ℕ, Bool, true, false, cond, List, ap}
use Rattle.std.specs.Prelude.{Result, Ok, Err, is_ok}
use Rattle.std.proofs.lemmas.Bool.{false≢true}
use Rattle.quantity.specs.Names.{is_resource_name, name_of}
use Rattle.quantity.specs.declared.fault.QuantityFault.{QuantityFault}
use Rattle.quantity.specs.declared.fault.QuantityFault.TheVariants.{BadName}

pub name_is : (text name : List ℕ) → name_of text ≡ Ok name → name ≡ text
name_is text name h = by_test (is_resource_name text) h
  where
    answer : Bool → Result (List ℕ) QuantityFault
    answer b = cond b (Ok text) (Err BadName)

    by_test : (b : Bool) → answer b ≡ Ok name → name ≡ text
    by_test true e = cc
    by_test false e = absurd (false≢true (ap is_ok e))
