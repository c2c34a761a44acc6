use Rattle.std.proofs.Common.{ap, ◌∙◌}
use Rattle.roster.specs.Places.{place_of}
use Rattle.master_agents.specs.Configs.{are_ordered}
use Rattle.master_agents.specs.Joined.{side_names}
use Rattle.master_agents.proofs.Looking.{place_joined}
use Rattle.master_agents.proofs.sides.Sides.place_of.Goals as goal

pub place_in-requires : goal.place_in-requires
place_in-requires c = ap (λ ss. are_ordered (side_names ss)) c.entries.ensures ∙ c.self.invariant.ordered

pub returns : goal.returns
returns c =
    c.place_in.ensures ∙ ap (place_of c.args.name.now) c.entries.ensures
    ∙ place_joined c.args.name.now c.self.inside.roster c.self.inside.book c.self.invariant.one ∙ ap (place_of c.args.name.now) c.self.view_is
