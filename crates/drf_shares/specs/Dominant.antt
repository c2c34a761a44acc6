-- Dominant shares (DRF paper, section 4).
use Rattle.std.specs.Prelude.{◌≡◌, ◌⊎◌, ◌*◌, ◌<◌, ◌≤◌, ℕ, Bool, nat_le, List}
use Rattle.quantity.specs.declared.rows.Row.{Row}
use Rattle.quantity.specs.Rows.{amount}
use Rattle.drf_shares.specs.Lists.{Among}
pub use Rattle.drf_shares.specs.Parts.{Part}

-- nothing, or what is held of one name of the totals by its total;
-- and of no other name is held more by its total
pub record IsDominant (totals held : List Row) (f : Part) : Type 0 where
  pub some : 0 < f.total
  pub most : (r : Row) → Among r totals → amount r.name held * f.total ≤ f.amount * r.amount
  pub one_of : (f.amount ≡ 0)
      ⊎ ((r : Row) × Among r totals × (amount r.name held ≡ f.amount) × (r.amount ≡ f.total))

-- no part of any total
abbrev pub nothing : Part
nothing = record { amount = 0; total = 1 }

-- a part by its weight is at most another by the other's
abbrev pub is_at_most : Part → ℕ → Part → ℕ → Bool
is_at_most f v g w = nat_le (f.amount * (g.total * w)) (g.amount * (f.total * v))
