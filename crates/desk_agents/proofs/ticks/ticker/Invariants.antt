use Rattle.std.proofs.Common.{List}
use Rattle.desk_agents.specs.Rounds.{AreRounds, Ticking, ticking}
use Rattle.desk_agents.proofs.ticks.ticker.Given as goal

abbrev pub invariant-loop : goal.invariant-loop
invariant-loop g l = (states : List (Ticking g.row.S.Denot)) × AreRounds g.D.Running.is_taken g.D.Running.is_refused g.S.Seconds.reads states (ticking l.fn.seconds 0 l.fn.pass) (ticking l.seconds l.moment l.pass)
