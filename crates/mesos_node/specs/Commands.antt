-- What the command `calls` writes.
use Rattle.std.specs.Prelude.{ℕ, List, Option}
use Rattle.std.specs.Io.KnownBytes.{Appends}
use Rattle.frame_record.specs.Writes.{AppendsFront}
use Rattle.frame_record.specs.declared.fault.FrameFault.{FrameFault}
use Rattle.call_replies.specs.Replies.{IsAnswer}

-- the answer to the input was written, which ends with this fault, if there is one
abbrev pub Answers : List ℕ → Option FrameFault → Option (List ℕ) → Option (List ℕ) → Type 0
Answers input fault old new = (text : List ℕ) × IsAnswer input text fault × Appends old new text

-- a beginning of the answer to the input was written
abbrev pub AnswersFront : List ℕ → Option (List ℕ) → Option (List ℕ) → Type 0
AnswersFront input old new =
    (text : List ℕ) (fault : Option FrameFault) → IsAnswer input text fault
    → AppendsFront old new text
