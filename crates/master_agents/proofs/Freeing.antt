-- What is free of an agent whose session is open.
use Rattle.std.proofs.Common.{◌≡◌, true, false, Some, None, refl}
use Rattle.cluster_model.specs.Sides.{Side}
use Rattle.cluster_model.specs.Rounds.{free}
use Rattle.master_agents.specs.Free.{open_part}

pub open_is : (s : Side) → s.is_open ≡ true → Some (s.name, free s) ≡ open_part s
open_is s is = rw is refl

pub shut_is : (s : Side) → s.is_open ≡ false → None ≡ open_part s
shut_is s is = rw is refl
