use Rattle.std.proofs.Common.{take}
use Rattle.master_agents.proofs.Changing.{entered_present}
use Rattle.master_agents.proofs.sides.enter_all.Goals as goal

pub enter-requires : goal.enter-requires
enter-requires c = rw c.loop-agent.invariant.book (entered_present (take c.loop-agent.agent-index c.args.agents.now))
