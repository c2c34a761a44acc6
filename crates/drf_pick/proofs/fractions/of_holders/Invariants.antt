use Rattle.std.proofs.Common.{◌≡◌, length, take}
use Rattle.drf_pick.specs.Fractions.{OfHolders}
use Rattle.drf_pick.proofs.fractions.of_holders.Given as goal

abbrev pub invariant-loop-holder : goal.invariant-loop-holder
invariant-loop-holder l = OfHolders l.totals (take l.holder-index l.holders) l.fractions.items × (length l.fractions.items ≡ l.holder-index)
