use Rattle.cluster_laws.proofs.Moves.{moved_parts, received_parts, stopped_parts, fallen_parts, new_fallen_parts, opened_parts}
use Rattle.cluster_laws.proofs.parts.masters_leave_agents.Goals as goal

pub returns : goal.returns
returns c = record { does = moved_parts; receives = received_parts; stops = stopped_parts; falls = fallen_parts; new_falls = new_fallen_parts; opening = opened_parts }
