use Rattle.std.proofs.Common.{◌≡◌, length, take}
use Rattle.std.specs.List.{AllByRecursion}
use Rattle.drf_pick.specs.Shown.{HasNone, SameFound, StayCounted, counted_in}
use Rattle.drf_pick.proofs.counted.CountedShares.take_back_framework.Given as goal

abbrev pub invariant-loop-place : goal.invariant-loop-place
invariant-loop-place l = record {
  many : length l.self.found.items ≡ length l.fn.self.found.items;
  found : SameFound l.fn.self.found.items l.self.found.items;
  none : AllByRecursion (λ f. HasNone l.framework (counted_in f)) (take l.place l.self.found.items);
  counted : StayCounted l.fn.self l.self;
  owned : l.self.owned ≡ l.fn.self.owned;
}
