use Rattle.cluster_laws.proofs.Moves.{stepped_master, fallen_master, stepped_parts}
use Rattle.cluster_laws.proofs.parts.agents_leave_the_others.Goals as goal

pub returns : goal.returns
returns c = record { master = stepped_master; falls = fallen_master; agents = stepped_parts }
