use Rattle.desk_agents.specs.Saved.{IsOpen, Keeps, WasKept}
use Rattle.desk_agents.proofs.worker.Worker.reopen_at_last.Given as goal

abbrev pub invariant-loop : goal.invariant-loop
invariant-loop g l = Keeps g.D.Running.is_taken (WasKept g.C.Cabinet.keeps) l.fn.pass l.pass × IsOpen g.D.Running.is_taken l.fn.self.agent.now l.opened l.pass
