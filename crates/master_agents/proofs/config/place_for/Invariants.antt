use Rattle.std.proofs.Common.{◌≡◌, ◌+◌, drop}
use Rattle.master_agents.specs.Configs.{place_for}
use Rattle.master_agents.proofs.config.place_for.Given as goal

abbrev pub invariant-loop-agent : goal.invariant-loop-agent
invariant-loop-agent l = record {
  place : l.place ≡ l.agent-index;
  sum : l.place + place_for l.name (drop l.agent-index l.agents) ≡ place_for l.name l.agents;
}
