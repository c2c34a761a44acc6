use Rattle.std.proofs.Common.{◌≡◌, take, fold}
use Rattle.master_calls.specs.Ends.{ends_on}
use Rattle.master_calls.proofs.on_teardown.end_on_all.Given as goal

abbrev pub invariant-loop-agent : goal.invariant-loop-agent
invariant-loop-agent l = l.state ≡ fold (ends_on l.framework) l.fn.state (take l.agent-index l.agents)
