use Rattle.std.proofs.Common.{rules, ap, ap₂, ◌≡◌, ◌∙◌}
use Rattle.std.proofs.lemmas.Result.{IfOk-weaker}
use Rattle.clap.specs.Words.{App, app_of, with_subcommand}
use Rattle.clap.proofs.SimpleLemmas.{plain_fields}
use Rattle.command_line.specs.Commands.{program}
use Rattle.command_line.proofs.command.plain_commands.Goals as goal

pub returns : goal.returns
returns c =
    let asks : app_of c.subcommand_required-top.result ≡ program = search rules in
    let calls = (plain_fields c.calls_command.result (ap (λ (a : App). a.top.is_plain) c.calls_command.ensures)).globals in
    let replay = (plain_fields c.replay_command.result (ap (λ (a : App). a.top.is_plain) c.replay_command.ensures)).globals in
    let with_calls = c.in_ok-with_calls.ensures.shape calls ∙ ap₂ with_subcommand asks (ap (λ (a : App). a.top) c.calls_command.ensures) in
    IfOk-weaker c.subcommand-2.result _ _ (λ app more. more.shape replay ∙ ap₂ with_subcommand with_calls (ap (λ (a : App). a.top) c.replay_command.ensures)) c.subcommand-2.ensures
