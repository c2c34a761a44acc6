use Rattle.std.proofs.Common.{◌∙◌, arith, None}
use Rattle.cluster_model.specs.Mails.{in_session}
use Rattle.roster.proofs.roster.judge_in.Goals as goal
use Rattle.roster.proofs.Shared.{told_here, told_past}

pub returns-then-place-entries : goal.returns-then-place-entries
returns-then-place-entries c = told_past c.args.place (λ s. in_session s c.args.session) None c.args.entries.now (omega arith)

pub returns : goal.returns
returns c =
    c.judge.ensures ∙ told_here c.args.place (λ s. in_session s c.args.session) None c.args.entries.now c.index-entries-place.result c.if-place-entries.false c.index-entries-place.is
