use Rattle.std.proofs.Common.{refl, ap, ◌∙◌, None}
use Rattle.cluster_model.specs.Mails.{in_session}
use Rattle.master_agents.specs.Looks.{value_of}
use Rattle.master_agents.proofs.AtNames.{told_joined}
use Rattle.master_agents.proofs.sides.Sides.judge.Goals as goal

pub returns : goal.returns
returns c =
    c.judge_of.ensures
    ∙ ap (value_of c.args.name.now (λ s. in_session s c.args.session) None) c.entries.ensures
    ∙ told_joined c.args.name.now (λ s. in_session s c.args.session) None (λ s a. refl) c.self.inside.roster c.self.inside.book c.self.invariant.one
    ∙ ap (value_of c.args.name.now (λ s. in_session s c.args.session) None) c.self.view_is
