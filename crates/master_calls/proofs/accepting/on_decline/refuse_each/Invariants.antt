use Rattle.std.proofs.Common.{◌≡◌, [], take, drop, map}
use Rattle.master_agents.specs.Own.{holding}
use Rattle.master_calls.specs.Declines.{refuses_each}
use Rattle.master_calls.proofs.accepting.on_decline.refuse_each.Given as goal

abbrev pub invariant-loop-i : goal.invariant-loop-i
invariant-loop-i l = refuses_each l.by (map holding l.sides) l.frameworks (take l.i l.ids) (drop l.i l.ids) ≡ refuses_each l.by (map holding l.sides) l.fn.frameworks [] l.ids
