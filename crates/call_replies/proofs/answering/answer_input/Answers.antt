use Rattle.std.proofs.Common.{take, sym, ◌∙◌, arith}
use Rattle.frame_record.specs.Firsts.{bodies}
use Rattle.call_replies.proofs.Progress.{begins, ends, ends_at_fault, goes_nowhere, goes_on, stops, stops_inside}
use Rattle.call_replies.proofs.answering.answer_input.Goals as goal

pub loop-init : goal.loop-init
loop-init g c =
    begins (g.R.Read.remaining c.args.reader.now) (g.W.Write.contents c.args.writer.now) c.new-frames.result c.args.master.now c.new-frames.ensures c.requires.master

pub loop-preserved : goal.loop-preserved
loop-preserved g c =
    let wrote = rw c.deref.ensures.value at c.in_default.ensures.ok in
    let after = rw c.deref.ensures.value at c.in_default.ensures.after in
    goes_on (g.R.Read.remaining c.args.reader.now) (g.R.Read.remaining c.loop.reader) (g.R.Read.remaining c.read_some.new.reader)
    (g.W.Write.contents c.args.writer.now) (g.W.Write.contents c.loop.writer) (g.W.Write.contents c.answer_all.new.writer)
    c.loop.frames c.feed.new.self c.loop.master c.answer_all.new.master (take c.in-Ok.count c.read_some.new.buffer) (bodies c.in-Ok-feed.fed.records.items) c.loop.invariant
    c.in-Ok.ensures.bytes.0 c.in-Ok-feed.ensures.reads wrote after

pub returns-in-Err-clause-err : goal.returns-in-Err-clause-err
returns-in-Err-clause-err g c = stops c.first_records_stay.ensures (g.R.Read.remaining c.args.reader.now) (g.R.Read.remaining c.loop.reader) (g.W.Write.contents c.args.writer.now) (g.W.Write.contents c.loop.writer) c.loop.frames c.loop.master c.loop.invariant

pub returns-in-Err-feed-clause-err : goal.returns-in-Err-feed-clause-err
returns-in-Err-feed-clause-err g c = stops c.first_records_stay.ensures (g.R.Read.remaining c.args.reader.now) (g.R.Read.remaining c.loop.reader) (g.W.Write.contents c.args.writer.now) (g.W.Write.contents c.loop.writer) c.loop.frames c.loop.master c.loop.invariant

pub returns-clause-err : goal.returns-clause-err
returns-clause-err g c = stops c.first_records_stay.ensures (g.R.Read.remaining c.args.reader.now) (g.R.Read.remaining c.loop.reader) (g.W.Write.contents c.args.writer.now) (g.W.Write.contents c.loop.writer) c.loop.frames c.loop.master c.loop.invariant

pub returns-then-count-eq0-clause-ok : goal.returns-then-count-eq0-clause-ok
returns-then-count-eq0-clause-ok g c =
    let none_taken = rw c.if-count-eq0.true at c.in-Ok.ensures.bytes.0 in
    let progress = goes_nowhere (g.R.Read.remaining c.args.reader.now) (g.R.Read.remaining c.loop.reader) (g.R.Read.remaining c.read_some.new.reader)
    (g.W.Write.contents c.args.writer.now) (g.W.Write.contents c.loop.writer) c.loop.frames c.loop.master c.loop.invariant none_taken in
    ends (g.R.Read.remaining c.args.reader.now) (g.R.Read.remaining c.read_some.new.reader) (g.W.Write.contents c.args.writer.now) (g.W.Write.contents c.loop.writer)
    c.loop.frames c.loop.master c.fault_at_end.result progress (c.in-Ok.ensures.bytes.1 c.if-count-eq0.true (omega (arith, c.requires.buffer, c.loop.auto.buffer, c.read_some.auto.buffer))) c.fault_at_end.ensures

pub returns-in-Err-answer_all-clause-err : goal.returns-in-Err-answer_all-clause-err
returns-in-Err-answer_all-clause-err g c =
    let wrote = rw c.deref.ensures.value at c.in-Err-answer_all.ensures.err in
    stops_inside c.first_records_stay.ensures (g.R.Read.remaining c.args.reader.now) (g.R.Read.remaining c.loop.reader) (g.R.Read.remaining c.read_some.new.reader)
    (g.W.Write.contents c.args.writer.now) (g.W.Write.contents c.loop.writer) (g.W.Write.contents c.answer_all.new.writer)
    c.loop.frames c.feed.new.self c.loop.master (take c.in-Ok.count c.read_some.new.buffer) (bodies c.in-Ok-feed.fed.records.items) c.loop.invariant
    c.in-Ok.ensures.bytes.0 c.in-Ok-feed.ensures.reads wrote

pub returns-in-Some-clause-ok : goal.returns-in-Some-clause-ok
returns-in-Some-clause-ok g c =
    let wrote = rw c.deref.ensures.value at c.in_default.ensures.ok in
    let after = rw c.deref.ensures.value at c.in_default.ensures.after in
    let progress = goes_on (g.R.Read.remaining c.args.reader.now) (g.R.Read.remaining c.loop.reader) (g.R.Read.remaining c.read_some.new.reader)
    (g.W.Write.contents c.args.writer.now) (g.W.Write.contents c.loop.writer) (g.W.Write.contents c.answer_all.new.writer)
    c.loop.frames c.feed.new.self c.loop.master c.answer_all.new.master (take c.in-Ok.count c.read_some.new.buffer) (bodies c.in-Ok-feed.fed.records.items) c.loop.invariant
    c.in-Ok.ensures.bytes.0 c.in-Ok-feed.ensures.reads wrote after in
    ends_at_fault c.fault_stays.ensures (g.R.Read.remaining c.args.reader.now) (g.R.Read.remaining c.read_some.new.reader) (g.W.Write.contents c.args.writer.now) (g.W.Write.contents c.answer_all.new.writer)
    c.feed.new.self c.answer_all.new.master c.in-Some.fault progress (sym c.in-Ok-feed.ensures.fault ∙ c.in-Some.is)
