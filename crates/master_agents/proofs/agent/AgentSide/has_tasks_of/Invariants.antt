use Rattle.std.proofs.Common.{◌≡◌}
use Rattle.std.specs.List.{list_any}
use Rattle.names_core.specs.Ids.{same}
use Rattle.master_agents.proofs.agent.AgentSide.has_tasks_of.Given as goal

abbrev pub invariant-loop-task : goal.invariant-loop-task
invariant-loop-task l = list_any (λ b. same b.job.framework l.framework) l.task-iterator ≡ list_any (λ b. same b.job.framework l.framework) l.self.booked
