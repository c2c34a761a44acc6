use Rattle.std.proofs.Common.{◌≡◌, ◌<◌}
use Rattle.master_state.specs.Starts.{IsStart}
use Rattle.master_state.proofs.registry.starts.go_on.Given as goal

abbrev pub invariant-loop-place : goal.invariant-loop-place
invariant-loop-place l = record {
  start : IsStart l.frameworks l.start;
  later : l.now < l.start.until;
  place : l.start.count ≡ l.place;
  agent : l.start.agent ≡ l.fn.start.agent;
  free : l.start.free ≡ l.fn.start.free;
}
