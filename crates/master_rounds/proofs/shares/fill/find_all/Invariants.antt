use Rattle.std.proofs.Common.{◌≡◌, length, take}
use Rattle.drf_pick.specs.Shown.{StayCounted}
use Rattle.master_rounds.specs.Allocations.{AreFoundOn}
use Rattle.master_rounds.proofs.shares.fill.find_all.Given as goal

abbrev pub invariant-loop-place : goal.invariant-loop-place
invariant-loop-place l = record {
  found : AreFoundOn (take l.place l.counted.found.items) (take l.place l.sides);
  many : length l.counted.found.items ≡ length l.sides;
  counted : StayCounted l.fn.counted l.counted;
  owned : l.counted.owned ≡ l.fn.counted.owned;
}
