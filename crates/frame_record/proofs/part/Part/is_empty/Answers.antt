use Rattle.std.proofs.Common.{arith}
use Rattle.frame_record.proofs.Lines.{no_text}
use Rattle.frame_record.proofs.part.Part.is_empty.Goals as goal

pub returns-else-is_empty : goal.returns-else-is_empty
returns-else-is_empty c = no_text c.is_empty.result c.args.self.now.line.len c.args.self.now.line.items c.args.self.now.body.items (omega arith) c.if-is_empty.false c.is_empty.ensures
