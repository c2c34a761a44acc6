use Rattle.std.proofs.Common.{ap, length, ◌∙◌}
use Rattle.master_agents.specs.Looks.{all_placed}
use Rattle.master_agents.proofs.Looking.{placed_joined}
use Rattle.master_agents.proofs.sides.Sides.booked_count.Goals as goal

pub returns : goal.returns
returns c = c.booked_count.ensures ∙ ap length (placed_joined c.self.inside.roster c.self.inside.book c.self.invariant.one) ∙ ap (λ ss. length (all_placed ss)) c.self.view_is
