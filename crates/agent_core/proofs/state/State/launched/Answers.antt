use Rattle.std.proofs.Common.{◌≡◌, List, length, ap, ◌∙◌}
use Rattle.std.specs.List.{insert, take_while}
use Rattle.names_core.specs.Ids.{before}
use Rattle.messages.specs.declared.record.RecordedTask.{RecordedTask}
use Rattle.cluster_model.specs.Agents.{launched_task}
use Rattle.agent_core.proofs.Recorded.{launched_placed}
use Rattle.agent_core.proofs.state.State.launched.Goals as goal

pub returns : goal.returns
returns c =
    let d = c.args.self.now.durable in
    let task = launched_task c.args.job c.args.offers in
    let new : c.in_ok-new.field-0 ≡ task = c.in_ok-new.ensures ∙ ap (λ updates. record { job = c.args.job; offers = c.args.offers; updates = updates }) c.new.ensures in
    let place = c.count_before-place.ensures.count ∙ ap (λ (ts : List RecordedTask). length (take_while (λ t. before t.job.key c.args.job.key) ts)) c.tasks.ensures in
    c.in_ok-insert.ensures.items
    ∙ ap (λ (ts : List RecordedTask). insert ts c.count_before-place.result c.in_ok-new.field-0) (c.in_ok-all.ensures ∙ c.tasks-2.ensures)
    ∙ ap (λ n. insert d.tasks n c.in_ok-new.field-0) place
    ∙ ap (insert d.tasks (length (take_while (λ t. before t.job.key c.args.job.key) d.tasks))) new
    ∙ launched_placed d c.args.job c.args.offers c.parts-recorded.ensures.recorded c.requires
