use Rattle.std.proofs.Common.{ap, ap₂, ◌∙◌}
use Rattle.std.proofs.lemmas.Result.{IfOk-weaker}
use Rattle.clap.specs.Words.{App, with_subcommand}
use Rattle.clap.proofs.SimpleLemmas.{plain_fields}
use Rattle.command_line.proofs.command.app.Goals as goal

pub returns : goal.returns
returns c =
    let serve = (plain_fields c.in_ok-serve.serve (ap (λ (a : App). a.top.is_plain) c.in_ok-serve.ensures)).globals in
    IfOk-weaker c.subcommand.result _ _ (λ app more. more.shape serve ∙ ap₂ with_subcommand c.in_ok-plain.ensures (ap (λ (a : App). a.top) c.in_ok-serve.ensures)) c.subcommand.ensures
