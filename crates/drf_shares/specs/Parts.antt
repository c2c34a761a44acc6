-- Parts of a total.
use Rattle.std.specs.Prelude.{ℕ}

pub record Part : Type 0 where
  pub amount : ℕ
  pub total : ℕ
