use Rattle.std.proofs.Common.{refl, ap, ◌∙◌, Ok, false}
use Rattle.roster.specs.Sessions.{reported}
use Rattle.master_agents.specs.Looks.{value_of}
use Rattle.master_agents.proofs.AtNames.{told_joined}
use Rattle.master_agents.proofs.sides.Sides.judge_report.Goals as goal

pub returns : goal.returns
returns c =
    c.report_of.ensures
    ∙ ap (value_of c.args.name.now (λ s. reported c.args.run s c.args.session c.args.number) (Ok false)) c.entries.ensures
    ∙ told_joined c.args.name.now (λ s. reported c.args.run s c.args.session c.args.number) (Ok false) (λ s a. refl) c.self.inside.roster c.self.inside.book c.self.invariant.one
    ∙ ap (value_of c.args.name.now (λ s. reported c.args.run s c.args.session c.args.number) (Ok false)) c.self.view_is
