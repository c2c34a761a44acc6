use Rattle.desk_agents.specs.Declines.{HasDeclined, WasOpen}
use Rattle.desk_agents.proofs.declines.decliner.Given as goal

abbrev pub invariant-loop : goal.invariant-loop
invariant-loop g l = HasDeclined g.D.Running.is_taken g.D.Running.is_refused (WasOpen g.D.Recorded.history g.D.Recorded.sound g.D.Running.offers_of) l.fn.seconds l.fn.pass l.pass
