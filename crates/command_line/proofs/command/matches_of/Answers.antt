use Rattle.std.proofs.Common.{ap, map, refl, subst, true, ◌≡◌, ◌∙◌}
use Rattle.std.proofs.lemmas.Result.{IfOk-weaker}
use Rattle.clap.specs.Words.{App, FailsBy, fault_of, is_simple, is_simple_and_free, subcommand_of}
use Rattle.clap.proofs.OnLiterals.{clap_on_literals}
use Rattle.command_line.specs.Commands.{command_line}
use Rattle.command_line.proofs.command.matches_of.Goals as goal

line_is_simple : is_simple command_line ≡ true
unfolding clap_on_literals
line_is_simple = refl

line_is_free : is_simple_and_free command_line ≡ true
unfolding clap_on_literals
line_is_free = refl

pub returns-clause-matches : goal.returns-clause-matches
returns-clause-matches c =
    let words = map (λ w. w.now) c.args.words.now in
    IfOk-weaker c.try_get_matches_from.result _ _
    (λ m h. (h (ap is_simple c.in_ok-app.ensures ∙ line_is_simple)).1 ∙ ap (λ (a : App). subcommand_of a words) c.in_ok-app.ensures) c.try_get_matches_from.ensures.matches

pub returns-clause-faults : goal.returns-clause-faults
returns-clause-faults c =
    let words = map (λ w. w.now) c.args.words.now in
    subst (λ (a : App). FailsBy (fault_of a words) c.try_get_matches_from.result) c.in_ok-app.ensures
    (c.try_get_matches_from.ensures.kinds (ap is_simple_and_free c.in_ok-app.ensures ∙ line_is_free))
