use Rattle.http_head.proofs.Judged.{no_line}
use Rattle.http_head.proofs.line.judge_line.Goals as goal

pub returns-in_default-clause-none : goal.returns-in_default-clause-none
returns-in_default-clause-none c _ =
    no_line c.args.text.now c.in-Ok-Complete.len c.in-Ok-Complete.size (rw c.in-Ok-Complete.field-0-is at c.in-Ok-Complete.ensures.complete) c.if-len-text.false
