use Rattle.std.proofs.Common.{◌≡◌, length, take}
use Rattle.master_state.specs.LastRound.{clients_of}
use Rattle.drf_pick.specs.Shown.{AreCounted}
use Rattle.master_rounds.proofs.shares.fill.register_all.Given as goal

abbrev pub invariant-loop-place : goal.invariant-loop-place
invariant-loop-place l = record {
  counted : AreCounted (clients_of (take l.place l.frameworks)) l.counted;
  many : length l.counted.found.items ≡ length l.fn.counted.found.items;
  owned : l.counted.owned ≡ l.fn.counted.owned;
}
