use Rattle.std.proofs.Common.{refl}
use Rattle.cluster_agents.proofs.agents.ClusterAgent.prepare.Goals as goal

pub returns-in-Ok-clause-drawn : goal.returns-in-Ok-clause-drawn
returns-in-Ok-clause-drawn c = rw (← c.self.view_is) (c.in-Ok.draft.draft, c.in-Ok.ensures.draft, refl)
