use Rattle.std.proofs.Common.{rules}
use Rattle.desk_lock.proofs.Waits.{wait_refused, woken_by}
use Rattle.desk_lock.proofs.office.Office.wait_mail.Goals as goal

pub returns-in-Ok-clause-woken : goal.returns-in-Ok-clause-woken
returns-in-Ok-clause-woken g c =
    woken_by _ _ _ g.D.Running.is_first_to c.args.agent.now _ _ c.wake_of.ensures c.in-Ok.ensures.waited
    (λ state mail says. (let met = says.says.met in let shows = says.shows in search rules))

pub returns-in-Err-clause-refused : goal.returns-in-Err-clause-refused
returns-in-Err-clause-refused g c = wait_refused _ _ _ _ _ c.args.pass.now _ (λ state fault says. (let met = says.says.met in let shows = says.shows in search rules)) c.in-Err.ensures.refused
