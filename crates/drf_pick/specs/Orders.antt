-- Orders.
use Rattle.std.specs.Prelude.{◌≡◌, Bool, true, false}
pub use Rattle.drf_shares.specs.Lists.{Among}

-- a test that compares any two, and is transitive
pub record IsPreorder {X : Type 0} (le : X → X → Bool) : Type 0 where
  pub total : (x y : X) → le x y ≡ false → le y x ≡ true
  pub trans : (x y z : X) → le x y ≡ true → le y z ≡ true → le x z ≡ true
