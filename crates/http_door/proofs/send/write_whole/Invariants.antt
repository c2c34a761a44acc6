use Rattle.std.proofs.Common.{◌≡◌, ◌≤◌, ◌-◌, take, length}
use Rattle.http_door.proofs.send.write_whole.Given as goal

abbrev pub invariant-loop-at : goal.invariant-loop-at
invariant-loop-at g l =
    g.O.Outlet.writes l.fn.outlet (take l.at l.text) l.outlet × (l.at ≤ length l.text) × (g.O.Outlet.faults l.outlet ≡ g.O.Outlet.faults l.fn.outlet)

abbrev pub decreases-loop-at : goal.decreases-loop-at
decreases-loop-at g l = length l.text - l.at
