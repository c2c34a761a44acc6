use Rattle.std.proofs.Common.{◌≡◌, true, List, subst}
use Rattle.std.specs.List.{AllByRecursion as Each}
use Rattle.stream_core.specs.Updates.{are_updates}
use Rattle.messages.specs.declared.record.RecordedTask.{RecordedTask}
use Rattle.agent_core.proofs.Recorded.{stated_leaves, stated_recorded}
use Rattle.agent_core.proofs.state.State.stated_is_record.Goals as goal

pub returns-clause-recorded : goal.returns-clause-recorded
returns-clause-recorded c =
    let each = subst (λ (ts : List RecordedTask). Each (λ t. are_updates t.updates.states t.updates.acknowledged ≡ true) ts) c.tasks.ensures c.tasks_are_recorded.ensures in
    stated_recorded c.args.self.now.durable c.args.key c.args.state c.amounts_add_up.ensures c.covers_is_at_least.ensures each c.parts-recorded.ensures.recorded

pub returns-clause-room : goal.returns-clause-room
returns-clause-room c room left = stated_leaves c.args.self.now.durable c.args.key c.args.state room c.amounts_add_up.ensures left
