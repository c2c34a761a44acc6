use Rattle.std.proofs.Common.{sym, ◌∙◌, []}
use Rattle.cluster_model.specs.Sides.{lost, new_side}
use Rattle.master_agents.proofs.Looking.{named_at, unnamed}
use Rattle.master_agents.proofs.sides.Sides.lose_named.Goals as goal

pub returns-in-Some : goal.returns-in-Some
returns-in-Some c = c.lose.ensures ∙ named_at c.args.name.now lost c.args.self.now c.in-Some.place (new_side []) (sym c.place_of.ensures ∙ c.in-Some.is)

pub returns-in_default : goal.returns-in_default
returns-in_default c = unnamed c.args.name.now lost c.args.self.now (sym c.place_of.ensures ∙ c.in_default.is)
