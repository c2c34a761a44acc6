use Rattle.cluster_laws.proofs.Moves.{draws, draws_mail, adopts, stops_without, stops_with}
use Rattle.cluster_laws.proofs.parts.steps_move_agents.Goals as goal

pub returns : goal.returns
returns c = record { draws = draws; draws_mail = draws_mail; adopts = adopts; stops_without = stops_without; stops_with = stops_with }
