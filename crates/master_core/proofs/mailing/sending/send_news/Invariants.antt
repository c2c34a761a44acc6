use Rattle.std.proofs.Common.{◌≡◌, ◌++◌, flat_map}
use Rattle.master_core.specs.Sending.{news}
use Rattle.master_core.proofs.mailing.sending.send_news.Given as goal

abbrev pub invariant-loop-task : goal.invariant-loop-task
invariant-loop-task l = l.events ++ flat_map (news l.frameworks l.agent l.update) l.task-iterator ≡ l.fn.events ++ flat_map (news l.frameworks l.agent l.update) l.fn.tasks
