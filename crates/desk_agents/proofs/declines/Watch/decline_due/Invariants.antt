use Rattle.desk_agents.specs.Declines.{HasDeclined, WasOpen}
use Rattle.desk_agents.proofs.declines.Watch.decline_due.Given as goal

abbrev pub invariant-loop-offer : goal.invariant-loop-offer
invariant-loop-offer g l = HasDeclined g.D.Running.is_taken g.D.Running.is_refused (WasOpen g.D.Recorded.history g.D.Recorded.sound g.D.Running.offers_of) l.fn.self.seconds l.fn.pass l.pass
