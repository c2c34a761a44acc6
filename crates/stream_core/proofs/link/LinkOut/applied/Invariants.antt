use Rattle.std.proofs.Common.{◌≡◌, ◌≤◌, take, drop}
use Rattle.stream_core.proofs.link.LinkOut.applied.Given as goal

abbrev pub invariant-loop : goal.invariant-loop
invariant-loop g l =
    (l.newly.items ≡ take l.counter l.initial.self-inside.waiting.items) ×
    (l.self-inside.waiting.items ≡ drop l.counter l.initial.self-inside.waiting.items) ×
    (l.counter ≤ l.more) ×
    (l.more ≤ l.newly.cap)
