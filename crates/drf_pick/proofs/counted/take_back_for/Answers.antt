use Rattle.std.proofs.Common.{ap, sym, ◌∙◌}
use Rattle.std.specs.List.{list_any}
use Rattle.drf_pick.specs.Shown.{is_for}
use Rattle.drf_pick.proofs.Counting.{none_in}
use Rattle.drf_pick.proofs.counted.take_back_for.Goals as goal

pub returns-else-any_for-clause-none : goal.returns-else-any_for-clause-none
returns-else-any_for-clause-none c = none_in c.args.framework c.args.found.now (ap (list_any (is_for c.args.framework)) (sym c.deref.ensures.value) ∙ sym c.any_for.ensures ∙ c.if-any_for.false)
