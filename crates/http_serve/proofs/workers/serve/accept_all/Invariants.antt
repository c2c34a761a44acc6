use Rattle.std.proofs.Common.{◌≡◌, ◌+◌}
use Rattle.http_serve.proofs.workers.serve.accept_all.Given as goal

-- so many were taken since the call began
abbrev pub invariant-loop : goal.invariant-loop
invariant-loop g l = g.A.Arrivals.taken l.arrivals ≡ g.A.Arrivals.taken l.initial.arrivals + l.taken
