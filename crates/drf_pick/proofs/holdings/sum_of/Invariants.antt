use Rattle.std.proofs.Common.{take}
use Rattle.quantity.specs.Laws.{SameAmounts}
use Rattle.drf_pick.specs.Shares.{all_held}
use Rattle.drf_pick.proofs.holdings.sum_of.Given as goal

abbrev pub invariant-loop-holder : goal.invariant-loop-holder
invariant-loop-holder l = SameAmounts l.sum (all_held (take l.holder-index l.holders))
