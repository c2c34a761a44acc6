use Rattle.std.proofs.Common.{ap, map, ◌∙◌}
use Rattle.master_agents.specs.Changes.{side_of}
use Rattle.master_agents.specs.Configs.{are_ordered, names_of}
use Rattle.master_agents.proofs.Changing.{entered_fit, entered_joins}
use Rattle.master_agents.proofs.sides.Sides.of.Goals as goal

pub invariant_of-result : goal.invariant_of-result
invariant_of-result c =
    rw (c.in_ok-enter_all.ensures.roster, c.in_ok-enter_all.ensures.book)
    (entered_fit c.agents.result.now (ap (λ agents. are_ordered (names_of agents)) c.agents.ensures.agents ∙ c.agents.ensures.ordered))

pub returns : goal.returns
returns c = rw (c.in_ok-enter_all.ensures.roster, c.in_ok-enter_all.ensures.book) (entered_joins c.agents.result.now ∙ ap (map side_of) c.agents.ensures.agents)
