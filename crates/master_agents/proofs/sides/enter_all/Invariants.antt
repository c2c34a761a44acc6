use Rattle.std.proofs.Common.{◌≡◌, map, take}
use Rattle.master_agents.specs.Changes.{account_of, side_of}
use Rattle.master_agents.proofs.sides.enter_all.Given as goal

abbrev pub invariant-loop-agent : goal.invariant-loop-agent
invariant-loop-agent l = record {
  roster : l.roster ≡ map side_of (take l.agent-index l.agents);
  book : l.book ≡ map account_of (take l.agent-index l.agents);
}
