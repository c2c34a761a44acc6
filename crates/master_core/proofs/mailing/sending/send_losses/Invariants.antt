use Rattle.std.proofs.Common.{◌≡◌, ◌++◌, flat_map}
use Rattle.master_core.specs.Sending.{loss_of}
use Rattle.master_core.proofs.mailing.sending.send_losses.Given as goal

abbrev pub invariant-loop-task : goal.invariant-loop-task
invariant-loop-task l = l.events ++ flat_map (loss_of l.frameworks l.agent l.reported) l.task-iterator ≡ l.fn.events ++ flat_map (loss_of l.frameworks l.agent l.reported) l.fn.tasks
