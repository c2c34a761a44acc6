use Rattle.std.proofs.Common.{◌≡◌, ◌++◌, codes, flat_map, take}
use Rattle.step_text.specs.EntriesLines.{event_line}
use Rattle.step_text.proofs.entries.entry.push_events.Given as goal

abbrev pub invariant-loop-event : goal.invariant-loop-event
invariant-loop-event l = l.text.items ≡ l.fn.text.items ++ flat_map (event_line (codes ">")) (take l.event-index l.events)
