use Rattle.std.proofs.Common.{refl, ◌∙◌}
use Rattle.master_agents.proofs.Changing.{entered_behind}
use Rattle.master_agents.proofs.sides.enter.Goals as goal

pub returns-in-Ok : goal.returns-in-Ok
returns-in-Ok c = entered_behind c.in_ok-name.name c.new.result c.args.book.now c.enter_agent.new.self c.requires c.in-Ok.ensures.ok ∙ rw (c.in_ok-name.ensures, c.new.ensures) refl
