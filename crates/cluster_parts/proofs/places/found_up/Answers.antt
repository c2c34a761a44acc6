use Rattle.std.proofs.Common.{◌≡◌, ◌∙◌, Option, sym, subst}
use Rattle.std.specs.Prelude.{IfSome, false}
use Rattle.cluster_agents.specs.Agents.{KeptAgent}
use Rattle.cluster_parts.proofs.Parting.{slice_there, standing_at}
use Rattle.cluster_parts.proofs.places.found_up.Goals as goal

pub returns-then-is_down-clause-commit : goal.returns-then-is_down-clause-commit
returns-then-is_down-clause-commit c = λ s same.
    c.commits_are_made.ensures.down s c.args.name.now c.in_ok-place.place c.index-agents-place.result (standing_at s c.args.agents.now c.args.name.now c.in_ok-place.place c.index-agents-place.result same c.in_ok-place.ensures.place c.in_ok-place.ensures.within c.index-agents-place.is) (sym c.is_down.ensures ∙ c.if-is_down.true)

pub returns-then-is_down-clause-prepare : goal.returns-then-is_down-clause-prepare
returns-then-is_down-clause-prepare c = λ cause s same.
    c.prepares_are_made.ensures.down s c.args.name.now c.in_ok-place.place c.index-agents-place.result cause (standing_at s c.args.agents.now c.args.name.now c.in_ok-place.place c.index-agents-place.result same c.in_ok-place.ensures.place c.in_ok-place.ensures.within c.index-agents-place.is) (sym c.is_down.ensures ∙ c.if-is_down.true)

pub returns-clause-up : goal.returns-clause-up
returns-clause-up c =
    subst (λ (o : Option KeptAgent). IfSome o (λ a. a.is_down ≡ false)) (sym (slice_there c.args.agents.now c.in_ok-place.place c.index-agents-place.result c.in_ok-place.ensures.within c.index-agents-place.is)) (sym c.is_down.ensures ∙ c.if-is_down.false)
