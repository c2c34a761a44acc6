use Rattle.std.proofs.Common.{sym, ◌∙◌, []}
use Rattle.cluster_model.specs.Sides.{new_side, without_used}
use Rattle.master_agents.proofs.Looking.{named_at, unnamed}
use Rattle.master_agents.proofs.sides.Sides.withdraw_used.Goals as goal

pub returns-in-Some : goal.returns-in-Some
returns-in-Some c = c.withdraw_used_at.ensures ∙ named_at c.args.name.now (λ s. without_used s c.args.framework c.args.ids.now) c.args.self.now c.in-Some.place (new_side []) (sym c.place_of.ensures ∙ c.in-Some.is)

pub returns-in_default : goal.returns-in_default
returns-in_default c = unnamed c.args.name.now (λ s. without_used s c.args.framework c.args.ids.now) c.args.self.now (sym c.place_of.ensures ∙ c.in_default.is)
