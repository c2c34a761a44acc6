use Rattle.frame_record.specs.Firsts.{text_of}
use Rattle.frame_record.proofs.Lines.{first_of_open, first_of_part, splits_on}
use Rattle.frame_record.proofs.part.Part.pull.Goals as goal

pub returns-in-Partial-clause-stops : goal.returns-in-Partial-clause-stops
returns-in-Partial-clause-stops c =
    let reached = rw c.in-Partial.is at c.in_ok-take_line.ensures in
    first_of_part c.take_line.new.self.line.items c.take_line.new.self.size c.take_line.new.self.body.items reached.1

pub returns-in-Whole-clause-splits : goal.returns-in-Whole-clause-splits
returns-in-Whole-clause-splits c =
    let reached = rw c.in-Whole.is at c.in_ok-take_line.ensures in
    splits_on c.fill.result (text_of c.args.self.now) (text_of c.take_line.new.self) (text_of c.fill.new.self) c.args.piece.now c.in-Whole.taken reached.1 c.fill.ensures.taken c.fill.ensures.splits

pub returns-in-Faulty-clause-last : goal.returns-in-Faulty-clause-last
returns-in-Faulty-clause-last c =
    let taken = rw c.in-Faulty.is at c.in_ok-take_line.ensures in
    (taken.0, first_of_open _ taken.2)
