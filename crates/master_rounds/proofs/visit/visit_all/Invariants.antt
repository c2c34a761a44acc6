use Rattle.std.proofs.Common.{◌≡◌, ◌<◌, take, fold}
use Rattle.master_state.specs.Starts.{AreStarts}
use Rattle.master_rounds.specs.Candidates.{AreCandidates}
use Rattle.master_rounds.specs.Visits.{visits}
use Rattle.master_rounds.proofs.visit.visit_all.Given as goal

abbrev pub invariant-loop-place : goal.invariant-loop-place
invariant-loop-place l = record {
  progress : l.progress ≡ fold (visits l.state.run l.state.moment l.state.frameworks) l.fn.progress (take l.place l.state.sides);
  candidates : AreCandidates l.progress.shares l.state.frameworks l.candidates;
  numbered : 0 < l.progress.next;
  starts : AreStarts l.state.frameworks l.starts;
}
