use Rattle.std.proofs.Common.{sym, ap, ◌∙◌}
use Rattle.offer_tables.proofs.Placed.{nowhere, there, not_in}
use Rattle.offer_tables.proofs.agents.place_of.Goals as goal

pub returns-in_default : goal.returns-in_default
returns-in_default c = nowhere c.args.name.now c.args.names.now.keys c.args.agents.now c.requires.named (sym c.in_default.ensures.index)

pub returns-then-agents-place : goal.returns-then-agents-place
returns-then-agents-place c =
    there c.args.name.now c.args.names.now.keys c.args.agents.now c.requires.named c.in-Some.place (sym c.in-Some.ensures.index)
    c.index-agents-place.result c.index-agents-place.is (ap (λ r. r.is_in) c.index-agents-place.is ∙ c.if-agents-place.true)

pub returns-else-agents-place : goal.returns-else-agents-place
returns-else-agents-place c =
    not_in c.args.name.now c.args.names.now.keys c.args.agents.now c.requires.named c.in-Some.place (sym c.in-Some.ensures.index) c.requires.apart
    c.index-agents-place.result c.index-agents-place.is (ap (λ r. r.is_in) c.index-agents-place.is ∙ c.if-agents-place.false)
