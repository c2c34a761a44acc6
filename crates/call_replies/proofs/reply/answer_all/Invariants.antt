use Rattle.std.proofs.Common.{◌≡◌, take}
use Rattle.std.specs.Io.KnownBytes.{Appends}
use Rattle.frame_record.specs.Firsts.{bodies}
use Rattle.call_replies.specs.Replies.{replies, after_all}
use Rattle.call_replies.proofs.reply.answer_all.Given as goal

abbrev pub invariant-loop-body : goal.invariant-loop-body
invariant-loop-body g l = record {
  written : Appends (g.W.Write.contents l.initial.writer) (g.W.Write.contents l.writer) (replies l.initial.master (bodies (take l.body-index l.records)));
  after : l.master ≡ after_all l.initial.master (bodies (take l.body-index l.records));
}
