use Rattle.std.proofs.Common.{◌≡◌, ◌≤◌, length, drop}
use Rattle.std.specs.BTreeMap.{get_by_text}
use Rattle.drf_pick.proofs.Ranked.{AreRankedUpTo}
use Rattle.drf_pick.proofs.ranks.ranks_of.Given as goal

abbrev pub invariant-loop-place : goal.invariant-loop-place
invariant-loop-place l = record {
  left : l.place-iterator ≡ drop l.rank l.places.entries;
  within : l.rank ≤ length l.places.entries;
  many : length l.ranks.items ≡ length l.sums;
  ranked : AreRankedUpTo l.places.entries l.rank (get_by_text l.places) l.ranks.items;
}
