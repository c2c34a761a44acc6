use Rattle.std.proofs.Common.{◌≡◌, ◌≤◌, true, List, length, take, subst}
use Rattle.std.specs.List.{list_all}
use Rattle.messages.specs.declared.record.RecordedTask.{RecordedTask}
use Rattle.agent_core.specs.Drafts.{agent_of}
use Rattle.agent_core.specs.Spared.{spares}
use Rattle.agent_core.proofs.Recorded.{none_done}
use Rattle.agent_core.proofs.Fronts.{kept_front}
use Rattle.agent_core.proofs.state.State.kept_first.Goals as goal

pub returns-clause-kept : goal.returns-clause-kept
returns-clause-kept c =
    let n = c.spared_first.result in
    let spared = subst (λ (ts : List RecordedTask). list_all (spares c.args.cause.now) (take n ts) ≡ true) c.tasks.ensures c.spared_first.ensures.spared in
    let within = subst (λ (ts : List RecordedTask). n ≤ length ts) c.tasks.ensures c.spared_first.ensures.within in
    λ d e. kept_front n (agent_of c.args.self.now) c.args.cause.now d (none_done c.args.self.now.durable c.parts-recorded.ensures.recorded) within spared e
