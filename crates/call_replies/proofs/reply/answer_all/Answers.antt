use Rattle.std.proofs.Common.{take, sym, ◌∙◌}
use Rattle.frame_record.specs.Firsts.{bodies}
use Rattle.call_json.specs.Calls.{read_call}
use Rattle.call_replies.specs.Replies.{frames, reply, replies, after_all}
use Rattle.call_replies.proofs.Replying.{after_none, replies_none, replies_more, after_more, front_at}
use Rattle.frame_record.specs.Written.{appends_more, appends_nothing}
use Rattle.call_replies.proofs.reply.answer_all.Goals as goal

pub loop-body-init : goal.loop-body-init
loop-body-init g c = record { written = rw (replies_none c.args.master.now) (appends_nothing (g.W.Write.contents c.args.writer.now)); after = sym (after_none c.args.master.now) }

pub loop-body-preserved : goal.loop-body-preserved
loop-body-preserved g c =
    let s = c.args.master.now in
    let rs = c.args.records.now in
    let i = c.loop-body.body-index in
    let r = c.body-item.result in
    let before = replies s (bodies (take i rs)) in
    let one = rw (c.deref.ensures.value, c.loop-body.invariant.after) at c.in_default.ensures.ok in
    let now = rw (c.deref.ensures.value, c.loop-body.invariant.after) at c.in_default.ensures.after in
    record {
      written = rw (replies_more s rs i r c.loop-body-test.true c.body-item.is) (appends_more (g.W.Write.contents c.args.writer.now) (g.W.Write.contents c.loop-body.writer) (g.W.Write.contents c.answer_one.new.writer) before (frames (reply (after_all s (bodies (take i rs))) (read_call r.items)).events) c.loop-body.invariant.written one);
      after = now ∙ sym (after_more s rs i r c.loop-body-test.true c.body-item.is);
    }

pub returns-in-Err-clause-err : goal.returns-in-Err-clause-err
returns-in-Err-clause-err g c =
    let s = c.args.master.now in
    let rs = c.args.records.now in
    let i = c.loop-body.body-index in
    let r = c.body-item.result in
    let front = rw (c.deref.ensures.value, c.loop-body.invariant.after) at c.in-Err.ensures.err in
    front_at (g.W.Write.contents c.args.writer.now) (g.W.Write.contents c.loop-body.writer) (g.W.Write.contents c.answer_one.new.writer) s rs i r c.loop-body-test.true c.body-item.is c.loop-body.invariant.written front
