-- What frameworks are allocated: resources of current offers, and of booked tasks that haven't
-- ended (DRF paper, section 4).
use Rattle.std.specs.Prelude.{ℕ, if◌then◌else◌, List, [], flat_map, bytes_eq}
use Rattle.names_core.specs.Ids.{Numbered, same}
use Rattle.quantity.specs.declared.rows.Row.{Row}
use Rattle.drf_pick.specs.Shares.{Tally, held_more}
pub use Rattle.drf_shares.specs.Sums.{AddUp}
pub use Rattle.drf_pick.specs.declared.holder.Client.{Client}
pub use Rattle.drf_pick.specs.declared.counted.Allocation.{Allocation}
pub use Rattle.drf_pick.specs.declared.counted.Found.{Found}
pub use Rattle.drf_pick.specs.declared.counted.CountedShares.{CountedShares}

-- a framework that is registered is allocated more
abbrev pub allocated : Tally → Allocation → Tally
allocated t g = held_more g.framework g.resources t

-- the rows of what is held: all, by one framework, and by the frameworks of one role

abbrev pub all_rows : List Allocation → List Row
all_rows gs = flat_map (λ g. g.resources) gs

abbrev pub rows_to : Numbered → List Allocation → List Row
rows_to id gs = flat_map (λ g. if same g.framework id then g.resources else []) gs

abbrev pub role_rows : List Client → List ℕ → List Allocation → List Row
role_rows cs role gs =
    flat_map (λ c. if bytes_eq c.role role then rows_to c.framework gs else []) cs
