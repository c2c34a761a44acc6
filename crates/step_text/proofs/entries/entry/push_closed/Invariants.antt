use Rattle.std.proofs.Common.{◌≡◌, ◌++◌, flat_map, take}
use Rattle.step_text.specs.EntriesLines.{closed_line}
use Rattle.step_text.proofs.entries.entry.push_closed.Given as goal

abbrev pub invariant-loop-stream : goal.invariant-loop-stream
invariant-loop-stream l = l.text.items ≡ l.fn.text.items ++ flat_map closed_line (take l.stream-index l.closed)
