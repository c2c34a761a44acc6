use Rattle.std.proofs.Common.{ap, ◌∙◌}
use Rattle.cluster_model.specs.Masters.{held_among}
use Rattle.master_agents.specs.Looks.{all_placed}
use Rattle.master_agents.proofs.Looking.{placed_joined}
use Rattle.master_agents.proofs.sides.Sides.held.Goals as goal

pub returns : goal.returns
returns c =
    c.held.ensures
    ∙ ap (λ ps. held_among ps c.args.framework c.args.name.now) (placed_joined c.self.inside.roster c.self.inside.book c.self.invariant.one ∙ ap all_placed c.self.view_is)
