use Rattle.std.proofs.Common.{◌≡◌, ◌≤◌, length, take, drop}
use Rattle.http_head.specs.Cuts.{place_behind, cut_after, cut_len}
use Rattle.http_head.proofs.cut.Scan.look.Given as goal

abbrev pub invariant-loop-i : goal.invariant-loop-i
invariant-loop-i l =
    (l.self.start ≡ l.fn.self.start) × (l.self.seen ≡ l.i) × (l.i ≤ length l.bytes)
    × (cut_after l.i l.self.place (drop l.i l.bytes) ≡ cut_len l.self.start l.bytes)
    × (l.self.place ≡ place_behind l.self.start (take l.i l.bytes))
