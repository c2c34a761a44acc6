use Rattle.std.proofs.Common.{◌≡◌, map, take}
use Rattle.cluster_parts.specs.Opening.{up_over}
use Rattle.cluster_parts.proofs.opening.recover_all.Given as goal

abbrev pub invariant-loop-durable : goal.invariant-loop-durable
invariant-loop-durable l = l.agents.items ≡ map up_over (take l.durable-index l.records)
