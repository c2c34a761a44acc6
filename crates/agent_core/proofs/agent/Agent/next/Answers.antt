use Rattle.agent_core.specs.Drafts.{agent_of, next_draft}
use Rattle.agent_core.proofs.Runs.{draft_with_run}
use Rattle.agent_core.proofs.agent.Agent.next.Goals as goal

pub of-requires : goal.of-requires
of-requires c = record {
  run = draft_with_run (agent_of c.self.inside.state) c.args.cause (next_draft c.in_ok-next.next) c.self.invariant c.hello_names_run.ensures c.in_ok-next.ensures;
  within = c.kept_first-kept.ensures.within;
  kept = c.kept_first-kept.ensures.kept (next_draft c.in_ok-next.next) c.in_ok-next.ensures;
}
