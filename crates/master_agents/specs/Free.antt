-- What is free of agents with an open session.
use Rattle.std.specs.Prelude.{ℕ, List, Option, Some, None, if◌then◌else◌}
use Rattle.quantity.specs.declared.rows.Row.{Row}
use Rattle.cluster_model.specs.Sides.{Side}
use Rattle.cluster_model.specs.Rounds.{free}

-- the agent's name and what is free there, where a session is open
abbrev pub open_part : Side → Option (List ℕ × List Row)
open_part s = if s.is_open then Some (s.name, free s) else None
