use Rattle.std.proofs.Common.{◌≡◌}
use Rattle.http_serve.proofs.arrivals.TcpArrivalsArrivals.next.Given as goal

-- a connection that fails isn't counted
abbrev pub invariant-loop : goal.invariant-loop
invariant-loop g l = l.self.taken ≡ l.initial.self.taken
