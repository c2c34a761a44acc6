use Rattle.std.proofs.Common.{◌≡◌, true, List, subst}
use Rattle.std.specs.List.{AllByRecursion as Each}
use Rattle.stream_core.specs.Updates.{are_updates}
use Rattle.messages.specs.declared.record.RecordedTask.{RecordedTask}
use Rattle.agent_core.specs.Drafts.{agent_of}
use Rattle.agent_core.proofs.Recorded.{command_recorded}
use Rattle.agent_core.proofs.state.State.applied_is_record.Goals as goal

pub returns : goal.returns
returns c =
    let each = subst (λ (ts : List RecordedTask). Each (λ t. are_updates t.updates.states t.updates.acknowledged ≡ true) ts) c.tasks.ensures c.tasks_are_recorded.ensures in
    command_recorded (agent_of c.args.self.now) c.args.command.now c.amounts_add_up.ensures c.covers_is_at_least.ensures each c.parts-recorded.ensures.recorded c.requires.run c.requires.room
