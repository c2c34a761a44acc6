use Rattle.std.proofs.Common.{take}
use Rattle.cluster_core.specs.StepRuns.{Ran}
use Rattle.cluster_core.proofs.running.pass_all.Given as goal

abbrev pub invariant-loop-step : goal.invariant-loop-step
invariant-loop-step l = Ran l.fn.cluster.story.setup l.fn.cluster.story.records (take l.step-index l.steps) l.cluster.story
