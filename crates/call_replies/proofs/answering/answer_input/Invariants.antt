use Rattle.call_replies.proofs.Progress.{Progress}
use Rattle.call_replies.proofs.answering.answer_input.Given as goal

abbrev pub invariant-loop : goal.invariant-loop
invariant-loop g l = Progress (g.R.Read.remaining l.initial.reader) (g.R.Read.remaining l.reader) (g.W.Write.contents l.initial.writer) (g.W.Write.contents l.writer) l.frames l.master
