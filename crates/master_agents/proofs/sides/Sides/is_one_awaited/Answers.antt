use Rattle.std.proofs.Common.{refl, ap, ◌∙◌, not, ◌&&◌, bytes_eq}
use Rattle.std.specs.List.{list_any}
use Rattle.cluster_model.specs.Masters.{has_returned}
use Rattle.master_agents.proofs.Looking.{any_joined}
use Rattle.master_agents.proofs.sides.Sides.is_one_awaited.Goals as goal

pub returns : goal.returns
returns c =
    c.is_one_awaited.ensures
    ∙ ap (list_any (λ s. bytes_eq s.name c.args.name.now && not (has_returned s))) c.entries.ensures
    ∙ any_joined (λ s. bytes_eq s.name c.args.name.now && not (has_returned s)) (λ s a. refl) c.self.inside.roster c.self.inside.book c.self.invariant.one
    ∙ ap (list_any (λ s. bytes_eq s.name c.args.name.now && not (has_returned s))) c.self.view_is
