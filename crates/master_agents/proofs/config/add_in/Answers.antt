use Rattle.std.proofs.Common.{rules, ◌∙◌}
use Rattle.master_agents.proofs.Naming.{inserted}
use Rattle.master_agents.proofs.config.add_in.Goals as goal

pub returns-clause-ok : goal.returns-clause-ok
returns-clause-ok c = c.in_ok-insert.ensures.items ∙ inserted c.args.agent c.args.agents.now.items c.place_for-place.result (search rules)
