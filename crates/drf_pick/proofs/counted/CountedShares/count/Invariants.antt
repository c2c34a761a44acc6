use Rattle.std.proofs.Common.{◌≡◌, length, take, true}
use Rattle.std.specs.List.{AllByRecursion}
use Rattle.drf_pick.specs.Shown.{SameFound, StayCounted}
use Rattle.drf_pick.proofs.counted.CountedShares.count.Given as goal

abbrev pub invariant-loop-place : goal.invariant-loop-place
invariant-loop-place l = record {
  many : length l.self.found.items ≡ length l.fn.self.found.items;
  found : SameFound l.fn.self.found.items l.self.found.items;
  all : AllByRecursion (λ f. f.is_counted ≡ true) (take l.place l.self.found.items);
  counted : StayCounted l.fn.self l.self;
  owned : l.self.owned ≡ l.fn.self.owned;
}
