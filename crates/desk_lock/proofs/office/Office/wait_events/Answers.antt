use Rattle.std.proofs.Common.{rules}
use Rattle.desk_lock.proofs.Waits.{ended_by}
use Rattle.desk_lock.proofs.office.Office.wait_events.Goals as goal

pub returns-clause-ended : goal.returns-clause-ended
returns-clause-ended g c =
    ended_by _ _ _ g.D.Running.stream_of c.args.stream _ c.wait_call.ensures.stopped
    (λ state says. (let met = says.says.met in let shows = says.shows in search rules))
