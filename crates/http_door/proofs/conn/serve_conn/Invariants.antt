use Rattle.std.proofs.Common.{◌≡◌, ℕ, List, length}
use Rattle.http_door.specs.Deeds.{Deed, Chain}
use Rattle.http_door.specs.Exchange.{Serves}
use Rattle.http_door.proofs.conn.serve_conn.Given as goal

abbrev pub invariant-loop-turn : goal.invariant-loop-turn
invariant-loop-turn g l =
    ((input : List ℕ) × (deeds : List Deed) × (sent : List ℕ)
    × g.I.Inlet.reads l.fn.inlet input l.inlet × Chain g.B.Bench.does l.fn.bench deeds l.bench × g.O.Outlet.writes l.fn.outlet sent l.outlet
    × Serves input deeds sent l.unread × (length deeds ≡ l._turn))
    × (g.I.Inlet.faults l.inlet ≡ g.I.Inlet.faults l.fn.inlet) × (g.O.Outlet.faults l.outlet ≡ g.O.Outlet.faults l.fn.outlet)
