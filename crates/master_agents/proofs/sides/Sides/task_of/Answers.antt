use Rattle.std.proofs.Common.{sym, ap, ◌∙◌}
use Rattle.offer_tables.specs.Held.{placed_of}
use Rattle.offer_tables.proofs.Holding.{placed_is}
use Rattle.master_agents.specs.Looks.{all_placed}
use Rattle.master_agents.proofs.Looking.{placed_joined}
use Rattle.master_agents.proofs.sides.Sides.task_of.Goals as goal

pub returns : goal.returns
returns c =
    c.task_of.ensures ∙ sym (placed_is c.args.key c.self.inside.book)
    ∙ ap (placed_of c.args.key) (placed_joined c.self.inside.roster c.self.inside.book c.self.invariant.one ∙ ap all_placed c.self.view_is)
