use Rattle.std.proofs.Common.{◌≡◌, map}
use Rattle.master_agents.specs.Own.{holding}
use Rattle.master_calls.specs.Declines.{refuses_id}
use Rattle.master_calls.proofs.accepting.on_decline.refuse_id.Given as goal

abbrev pub invariant-loop-agent : goal.invariant-loop-agent
invariant-loop-agent l = refuses_id l.by (map holding l.agent-iterator) l.frameworks l.id ≡ refuses_id l.by (map holding l.sides) l.fn.frameworks l.id
