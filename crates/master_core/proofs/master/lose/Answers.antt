use Rattle.master_state.specs.Works.{master_of}
use Rattle.master_core.proofs.Losing.{not_refused}
use Rattle.master_core.proofs.master.lose.Goals as goal

pub returns-in-Ok : goal.returns-in-Ok
returns-in-Ok c = (not_refused (master_of c.args.state.now) c.args.agent.now, c.in-Ok.ensures)

pub returns-in-Err : goal.returns-in-Err
returns-in-Err c = not_refused (master_of c.args.state.now) c.args.agent.now
