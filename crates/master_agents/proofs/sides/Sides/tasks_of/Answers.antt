use Rattle.std.proofs.Common.{[], ap, sym, ◌∙◌, arith}
use Rattle.cluster_model.specs.Sides.{new_side}
use Rattle.roster.specs.Places.{value_at}
use Rattle.master_agents.proofs.Looking.{told_named, untold}
use Rattle.master_agents.proofs.Reading.{tasks_told, past_there}
use Rattle.master_agents.proofs.sides.Sides.tasks_of.Goals as goal

pub returns-in-Some : goal.returns-in-Some
returns-in-Some c =
    c.tasks_at.ensures ∙ tasks_told c.in-Some.place c.self.inside.roster c.self.inside.book c.self.invariant.one
    ∙ ap (value_at c.in-Some.place (λ s. s.booked) []) c.self.view_is
    ∙ told_named c.args.name.now (λ s. s.booked) [] c.args.self.now c.in-Some.place (new_side []) (sym c.place_of.ensures ∙ c.in-Some.is)

pub returns-in-None : goal.returns-in-None
returns-in-None c =
    c.tasks_at-in-None.ensures ∙ past_there (λ a. a.booked) c.self.inside.book c.len.result (omega (arith, c.len.ensures))
    ∙ untold c.args.name.now (λ s. s.booked) [] c.args.self.now (sym c.place_of.ensures ∙ c.in-None.is)
