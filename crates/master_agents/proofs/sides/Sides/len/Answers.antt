use Rattle.std.proofs.Common.{length, ap, ◌∙◌}
use Rattle.master_agents.proofs.Looking.{length_joined}
use Rattle.master_agents.proofs.sides.Sides.len.Goals as goal

pub returns : goal.returns
returns c = ap length c.entries.ensures ∙ length_joined c.self.inside.roster c.self.inside.book c.self.invariant.one ∙ ap length c.self.view_is
