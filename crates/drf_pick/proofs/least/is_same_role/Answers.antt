use Rattle.std.proofs.Common.{sym, ◌∙◌}
use Rattle.drf_pick.proofs.OnceRoles.{same_place}
use Rattle.drf_pick.proofs.least.is_same_role.Goals as goal

pub returns-in-Some-other : goal.returns-in-Some-other
returns-in-Some-other c =
    same_place c.args.first.now c.args.second.now c.args.shares.now.roles c.in-Some.place c.in-Some-other.other_place (sym c.requires.one ∙ c.in-Some.is) (sym c.requires.other ∙ c.in-Some-other.is)
