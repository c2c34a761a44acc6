use Rattle.std.proofs.Common.{codes}
use Rattle.step_text.specs.EntriesLines.{event_line}
use Rattle.step_text.proofs.Each.{pushed_more, pushed_all}
use Rattle.step_text.proofs.entries.entry.push_events.Goals as goal

pub loop-event-preserved : goal.loop-event-preserved
loop-event-preserved c =
    pushed_more (event_line (codes ">")) c.args.events.now c.loop-event.event-index c.event-item.result c.event-item.result c.args.text.now.items c.loop-event.text.items c.push_event.new.text.items
    c.loop-event-test.true c.event-item.is c.loop-event.invariant c.in_ok-push_event.ensures

pub returns : goal.returns
returns c = pushed_all (event_line (codes ">")) c.args.events.now c.loop-event.event-index c.args.text.now.items c.loop-event.text.items c.loop-event-test.false c.loop-event.invariant
