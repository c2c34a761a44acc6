use Rattle.std.proofs.Common.{Option, Some, None, Result, Ok, Err, IfOk, IfSome, inl, inr, sym, subst, ◌++◌}
use Rattle.messages.specs.declared.mail.Command.{Command}
use Rattle.messages.specs.declared.mail.Command.TheVariants.{Launch}
use Rattle.cluster_model.specs.Agents.{live_tasks, task_rows, tasks_after}
use Rattle.agent_core.specs.Room.{Leaves}
use Rattle.agent_core.specs.Records.{HasRoom, with_other_tasks}
use Rattle.agent_core.proofs.Recorded.{LaunchesNothing, command_leaves, launched_leaves}
use Rattle.agent_core.proofs.state.State.room_after.Goals as goal

pub returns-in_ok-room-in-Kill-clause-left : goal.returns-in_ok-room-in-Kill-clause-left
returns-in_ok-room-in-Kill-clause-left c =
    let none : LaunchesNothing c.args.command.now = elim c.in-Kill.is [
      | inl kill ↦ subst LaunchesNothing (sym kill.1) tt
      | inr rest ↦ elim rest [ inl ack ↦ subst LaunchesNothing (sym ack.2) tt | inr end ↦ subst LaunchesNothing (sym end.1) tt ]
    ] in
    command_leaves c.args.self.now.durable c.args.command.now c.in_ok-room-in-Kill.room c.amounts_add_up.ensures none c.in_ok-room-in-Kill.ensures

wider : {A E : Type 0} (P Q : A → Type 0) → ((x : A) → P x → Q x) → (r : Result (Option A) E) → IfOk r (λ o. IfSome o P) → IfOk r (λ o. IfSome o Q)
wider P Q f (Ok None) h = h
wider P Q f (Ok (Some x)) h = f x h
wider P Q f (Err e) h = h

pub returns-in-Launch-clause-left : goal.returns-in-Launch-clause-left
returns-in-Launch-clause-left c =
    let d = c.args.self.now.durable in
    subst (λ (command : Command). IfOk c.room_beside.result (λ room. IfSome room (λ rest. HasRoom rest (with_other_tasks d (tasks_after command d.tasks))))) (sym c.in-Launch.is)
    (wider (λ rest. Leaves rest (c.in-Launch.job.resources ++ task_rows (live_tasks d.tasks)) d.total) (λ rest. HasRoom rest (with_other_tasks d (tasks_after (Launch c.in-Launch.job c.in-Launch.field-1) d.tasks)))
    (λ rest left. launched_leaves d c.in-Launch.job c.in-Launch.field-1 rest c.amounts_add_up.ensures left) c.room_beside.result c.room_beside.ensures.left)
