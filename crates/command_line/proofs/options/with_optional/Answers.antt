use Rattle.std.proofs.Common.{ap₂, refl, ◌∙◌}
use Rattle.std.proofs.lemmas.Result.{IfOk-weaker}
use Rattle.clap.specs.Words.{with_rule}
use Rattle.command_line.proofs.Local.{is_local}
use Rattle.command_line.proofs.options.with_optional.Goals as goal

pub returns : goal.returns
returns c =
    let with_interval = c.in_ok-with_interval.ensures.shape (is_local c.interval.result _ c.interval.ensures refl) ∙ ap₂ with_rule refl c.interval.ensures in
    let with_offer_seconds = c.in_ok-with_offer_seconds.ensures.shape (is_local c.offer_seconds.result _ c.offer_seconds.ensures refl) ∙ ap₂ with_rule with_interval c.offer_seconds.ensures in
    let with_task_seconds = c.in_ok-with_task_seconds.ensures.shape (is_local c.task_seconds.result _ c.task_seconds.ensures refl) ∙ ap₂ with_rule with_offer_seconds c.task_seconds.ensures in
    let with_connections = c.in_ok-with_connections.ensures.shape (is_local c.connections.result _ c.connections.ensures refl) ∙ ap₂ with_rule with_task_seconds c.connections.ensures in
    let with_idle_seconds = c.in_ok-with_idle_seconds.ensures.shape (is_local c.idle_seconds.result _ c.idle_seconds.ensures refl) ∙ ap₂ with_rule with_connections c.idle_seconds.ensures in
    let with_workers = c.in_ok-with_workers.ensures.shape (is_local c.workers.result _ c.workers.ensures refl) ∙ ap₂ with_rule with_idle_seconds c.workers.ensures in
    let with_memory = c.in_ok-with_memory.ensures.shape (is_local c.memory.result _ c.memory.ensures refl) ∙ ap₂ with_rule with_workers c.memory.ensures in
    IfOk-weaker c.arg-8.result _ _ (λ more added. added.shape (is_local c.keep_serving.result _ c.keep_serving.ensures refl) ∙ ap₂ with_rule with_memory c.keep_serving.ensures) c.arg-8.ensures
