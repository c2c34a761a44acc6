use Rattle.std.proofs.Common.{◌≤◌, ◌-◌, ◌++◌, List, ℕ, length, take}
use Rattle.frame_record.specs.Records.{Reads}
use Rattle.frame_record.specs.Firsts.{bodies}
use Rattle.frame_record.proofs.reader.Reader.pull_all.Given as goal

abbrev pub invariant-loop-records : goal.invariant-loop-records
invariant-loop-records l = record {
  inside : l.used ≤ length l.piece;
  reads : (text : List ℕ) (before : List (List ℕ)) → Reads text before l.initial.self → Reads (text ++ take l.used l.piece) (before ++ bodies l.records.items) l.self;
}

abbrev pub decreases-loop-records : goal.decreases-loop-records
decreases-loop-records l = length l.piece - l.used
