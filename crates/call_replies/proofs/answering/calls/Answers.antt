use Rattle.frame_record.specs.Read.{if_known}
use Rattle.frame_record.specs.Written.{front_nothing}
use Rattle.call_replies.proofs.answering.calls.Goals as goal

pub returns-in-Err-clause-err : goal.returns-in-Err-clause-err
returns-in-Err-clause-err g c = if_known (g.R.Read.remaining c.args.reader.now) _ (λ input known text fault is. front_nothing (g.W.Write.contents c.args.writer.now) text)
