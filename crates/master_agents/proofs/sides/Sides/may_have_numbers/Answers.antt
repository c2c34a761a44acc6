use Rattle.std.proofs.Common.{ap, ◌∙◌, bytes_eq}
use Rattle.std.specs.List.{find}
use Rattle.cluster_model.specs.Masters.{may_have_numbers}
use Rattle.master_agents.proofs.Looking.{numbers_joined}
use Rattle.master_agents.proofs.sides.Sides.may_have_numbers.Goals as goal

pub returns : goal.returns
returns c =
    c.may_have_numbers.ensures
    ∙ ap (λ ss. may_have_numbers c.args.count (find (λ s. bytes_eq s.name c.args.name.now) ss)) c.entries.ensures
    ∙ numbers_joined c.args.count c.args.name.now c.self.inside.roster c.self.inside.book c.self.invariant.one
    ∙ ap (λ ss. may_have_numbers c.args.count (find (λ s. bytes_eq s.name c.args.name.now) ss)) c.self.view_is
