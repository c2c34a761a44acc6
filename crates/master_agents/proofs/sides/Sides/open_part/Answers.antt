use Rattle.std.proofs.Common.{None, ◌∙◌}
use Rattle.master_agents.specs.Free.{open_part}
use Rattle.master_agents.proofs.Joining.{if_ok}
use Rattle.master_agents.proofs.Reading.{told_got, told_none}
use Rattle.master_agents.proofs.sides.Sides.open_part.Goals as goal

pub returns-in-Some : goal.returns-in-Some
returns-in-Some c = if_ok c.open_part_of.result (λ part e. e ∙ told_got open_part None c.args.self.now c.args.place c.in-Some.side c.in-Some.ensures) c.open_part_of.ensures

pub returns-in-None : goal.returns-in-None
returns-in-None c = told_none open_part None c.args.self.now c.args.place c.in-None.ensures
