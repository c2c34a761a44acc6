use Rattle.std.proofs.Common.{refl, ap, ◌∙◌, false}
use Rattle.master_agents.specs.Looks.{value_of}
use Rattle.master_agents.proofs.AtNames.{told_joined}
use Rattle.master_agents.proofs.sides.Sides.is_open.Goals as goal

pub returns : goal.returns
returns c =
    c.is_open_of.ensures
    ∙ ap (value_of c.args.name.now (λ s. s.is_open) false) c.entries.ensures
    ∙ told_joined c.args.name.now (λ s. s.is_open) false (λ s a. refl) c.self.inside.roster c.self.inside.book c.self.invariant.one
    ∙ ap (value_of c.args.name.now (λ s. s.is_open) false) c.self.view_is
