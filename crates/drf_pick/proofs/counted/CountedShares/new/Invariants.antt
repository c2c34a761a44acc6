use Rattle.std.proofs.Common.{◌≡◌, length, []}
use Rattle.drf_pick.specs.Shown.{all_owned, counted_of}
use Rattle.drf_pick.proofs.counted.CountedShares.new.Given as goal

abbrev pub invariant-loop : goal.invariant-loop
invariant-loop l = record {
  count : length l.found.items ≡ l.counter;
  none : counted_of l.found.items ≡ [];
  places : length l.owned.items ≡ l.counter;
  nothing : all_owned l.owned.items ≡ [];
}
