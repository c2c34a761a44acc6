use Rattle.std.proofs.Common.{None, Some, sym, ◌∙◌}
use Rattle.cluster_model.specs.Sides.{new_side}
use Rattle.master_agents.proofs.Looking.{told_named, untold}
use Rattle.master_agents.proofs.Reading.{found_told, got_told}
use Rattle.master_agents.proofs.sides.Sides.agent.Goals as goal

pub returns-in-Some : goal.returns-in-Some
returns-in-Some c =
    c.at.ensures ∙ got_told c.args.self.now c.in-Some.place
    ∙ told_named c.args.name.now (λ s. Some s) None c.args.self.now c.in-Some.place (new_side c.args.name.now) (sym c.place_of.ensures ∙ c.in-Some.is) ∙ found_told c.args.name.now c.args.self.now

pub returns-in-None : goal.returns-in-None
returns-in-None c =
    untold c.args.name.now (λ s. Some s) None c.args.self.now (sym c.place_of.ensures ∙ c.in-None.is) ∙ found_told c.args.name.now c.args.self.now
