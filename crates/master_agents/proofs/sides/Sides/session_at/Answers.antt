use Rattle.std.proofs.Common.{refl, ap, ◌∙◌}
use Rattle.roster.specs.Places.{value_at}
use Rattle.master_agents.proofs.Joining.{joined_told}
use Rattle.master_agents.proofs.sides.Sides.session_at.Goals as goal

pub returns : goal.returns
returns c =
    c.session_in.ensures ∙ ap (value_at c.args.place (λ s. s.session) 0) c.entries.ensures ∙ joined_told c.args.place (λ s. s.session) 0 (λ s a. refl) c.self.inside.roster c.self.inside.book c.self.invariant.one ∙ ap (value_at c.args.place (λ s. s.session) 0) c.self.view_is
