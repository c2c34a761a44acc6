use Rattle.std.proofs.Common.{ap₂, refl, ◌∙◌}
use Rattle.std.proofs.lemmas.Result.{IfOk-weaker}
use Rattle.clap.specs.Words.{with_rule}
use Rattle.command_line.proofs.Local.{is_local}
use Rattle.command_line.proofs.options.with_required.Goals as goal

pub returns : goal.returns
returns c =
    let with_port = c.in_ok-with_port.ensures.shape (is_local c.port.result _ c.port.ensures refl) ∙ ap₂ with_rule refl c.port.ensures in
    let with_agents = c.in_ok-with_agents.ensures.shape (is_local c.agents.result _ c.agents.ensures refl) ∙ ap₂ with_rule with_port c.agents.ensures in
    IfOk-weaker c.arg-3.result _ _ (λ more added. added.shape (is_local c.state.result _ c.state.ensures refl) ∙ ap₂ with_rule with_agents c.state.ensures) c.arg-3.ensures
