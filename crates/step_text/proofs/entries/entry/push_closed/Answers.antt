use Rattle.step_text.specs.EntriesLines.{closed_line}
use Rattle.step_text.proofs.Each.{pushed_more, pushed_all}
use Rattle.step_text.proofs.entries.entry.push_closed.Goals as goal

pub loop-stream-preserved : goal.loop-stream-preserved
loop-stream-preserved c =
    pushed_more closed_line c.args.closed.now c.loop-stream.stream-index c.stream-item.result c.stream-item.result c.args.text.now.items c.loop-stream.text.items c.push_closed_stream.new.text.items
    c.loop-stream-test.true c.stream-item.is c.loop-stream.invariant c.in_ok-push_closed_stream.ensures

pub returns : goal.returns
returns c = pushed_all closed_line c.args.closed.now c.loop-stream.stream-index c.args.text.now.items c.loop-stream.text.items c.loop-stream-test.false c.loop-stream.invariant
