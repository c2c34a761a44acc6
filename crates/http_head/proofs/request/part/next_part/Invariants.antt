use Rattle.std.proofs.Common.{◌≡◌, ◌++◌, ◌-◌, List, ℕ, length}
use Rattle.http_head.specs.Cuts.{HasSeen}
use Rattle.http_head.proofs.request.part.next_part.Given as goal

abbrev pub invariant-loop-len : goal.invariant-loop-len
invariant-loop-len g l =
    ((more : List ℕ) × g.I.Inlet.reads l.fn.inlet more l.inlet × (l.unread ≡ l.fn.unread ++ more))
    × (g.I.Inlet.faults l.inlet ≡ g.I.Inlet.faults l.fn.inlet)
    × HasSeen l.scan l.unread × (l.scan.start ≡ l.fn.place)

abbrev pub decreases-loop-len : goal.decreases-loop-len
decreases-loop-len g l = 16385 - length l.unread
