use Rattle.std.proofs.Common.{◌≡◌, ◌++◌, ◌+◌, drop}
use Rattle.step_text.specs.EntriesLines.{sent_lines}
use Rattle.step_text.proofs.entries.entry.push_sent.Given as goal

abbrev pub invariant-loop-one : goal.invariant-loop-one
invariant-loop-one l = (l.number ≡ l.first + l.one-index) × (l.text.items ++ sent_lines l.word l.number (drop l.one-index l.sent) ≡ l.fn.text.items ++ sent_lines l.word l.first l.sent)
