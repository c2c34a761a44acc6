use Rattle.std.proofs.Common.{ap, subst, ◌∙◌}
use Rattle.drf_pick.specs.Laws.{ArePositive}
use Rattle.drf_pick.specs.Shares.{AreWeighed, Tally}
use Rattle.drf_pick.proofs.least.are_sound.Goals as goal

pub returns-clause-positive : goal.returns-clause-positive
returns-clause-positive c = subst ArePositive (c.totals.ensures ∙ ap (λ (t : Tally). t.totals) c.shares.view_is) c.rows-totals.ensures.sum.positive

pub returns-clause-weighed : goal.returns-clause-weighed
returns-clause-weighed c = subst AreWeighed (c.roles.ensures ∙ ap (λ (t : Tally). t.roles) c.shares.view_is) c.as_slice-roles.ensures.weighed
