-- What was seen at an office.
use Rattle.std.specs.Prelude.{List}
use Rattle.desk_core.specs.Found.{IsFound}
use Rattle.desk_core.specs.Seats.{DeskState}

-- P holds of what some desk over what is sound records
pub record IsSeen {C E : Type 0} (history : C → List E) (sound : C → Type 0)
    (P : C → Type 0) : Type 0 where
  pub desk : DeskState C
  pub is_found : IsFound history sound desk
  pub says : P desk.recorded
