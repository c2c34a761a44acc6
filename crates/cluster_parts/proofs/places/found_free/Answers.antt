use Rattle.std.proofs.Common.{◌≡◌, ◌∙◌, Option, sym, subst}
use Rattle.std.specs.Prelude.{IfSome, None, false}
use Rattle.cluster_agents.specs.Agents.{KeptAgent}
use Rattle.cluster_agents.proofs.Preparing.{none_open}
use Rattle.cluster_parts.proofs.Parting.{slice_there, standing_at}
use Rattle.cluster_parts.proofs.places.found_free.Goals as goal

pub returns-then-has_draft-clause-refused : goal.returns-then-has_draft-clause-refused
returns-then-has_draft-clause-refused c = λ cause s same.
    let a = c.index-agents-place.result in
    let there = slice_there c.args.agents.now c.in_ok-place.place a c.in_ok-place.ensures.within c.index-agents-place.is in
    let up : a.is_down ≡ false = subst (λ (o : Option KeptAgent). IfSome o (λ b. b.is_down ≡ false)) there c.in_ok-place.ensures.up in
    c.prepares_are_made.ensures.opened s c.args.name.now c.in_ok-place.place a cause (standing_at s c.args.agents.now c.args.name.now c.in_ok-place.place a same c.in_ok-place.ensures.place c.in_ok-place.ensures.within c.index-agents-place.is) up (sym c.has_draft.ensures ∙ c.if-has_draft.true)

pub returns-clause-free : goal.returns-clause-free
returns-clause-free c =
    let a = c.index-agents-place.result in
    let there = slice_there c.args.agents.now c.in_ok-place.place a c.in_ok-place.ensures.within c.index-agents-place.is in
    let up : a.is_down ≡ false = subst (λ (o : Option KeptAgent). IfSome o (λ b. b.is_down ≡ false)) there c.in_ok-place.ensures.up in
    subst (λ (o : Option KeptAgent). IfSome o (λ b. (b.is_down ≡ false) × (b.part.draft ≡ None))) (sym there) (up, none_open a.part.draft (sym c.has_draft.ensures ∙ c.if-has_draft.false))
