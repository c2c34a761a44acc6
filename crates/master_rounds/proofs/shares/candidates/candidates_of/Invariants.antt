use Rattle.std.proofs.Common.{◌≡◌, length, take}
use Rattle.master_rounds.specs.Candidates.{AreCandidates}
use Rattle.master_rounds.proofs.shares.candidates.candidates_of.Given as goal

abbrev pub invariant-loop-place : goal.invariant-loop-place
invariant-loop-place l = record {
  are : AreCandidates l.shares (take l.place l.frameworks) l.candidates.items;
  all : length l.candidates.items ≡ l.place;
}
