use Rattle.std.proofs.Common.{refl, ap, ◌∙◌, None, Some}
use Rattle.master_agents.specs.Looks.{value_of}
use Rattle.master_agents.proofs.AtNames.{told_joined}
use Rattle.master_agents.proofs.sides.Sides.closed.Goals as goal

pub returns : goal.returns
returns c =
    c.closed_of.ensures
    ∙ ap (value_of c.args.name.now (λ s. Some s.closed) None) c.entries.ensures
    ∙ told_joined c.args.name.now (λ s. Some s.closed) None (λ s a. refl) c.self.inside.roster c.self.inside.book c.self.invariant.one
    ∙ ap (value_of c.args.name.now (λ s. Some s.closed) None) c.self.view_is
