use Rattle.http_serve.proofs.Asking.{asked, undelivered}
use Rattle.http_serve.proofs.bench.SeatBench.ask.Goals as goal

pub returns-clause-asked : goal.returns-clause-asked
returns-clause-asked g c =
    let s = c.in_ok-number.ensures.sent in
    asked g.D.Running.is_taken c.args.self.now c.send.new.self c.deliver.new.self c.args.stream c.args.call s.0 c.in_ok-number.number c.is_subscribe-subscribes.result c.deliver.result s.1 s.2 c.is_subscribe-subscribes.ensures c.deliver.ensures.delivered

pub returns-clause-failed : goal.returns-clause-failed
returns-clause-failed g c =
    let s = c.in_ok-number.ensures.sent in
    undelivered g.D.Running.is_taken g.D.Running.is_refused c.args.self.now c.send.new.self c.deliver.new.self c.args.stream c.args.call s.0 c.in_ok-number.number c.deliver.result s.1 s.2 c.deliver.ensures.refused c.deliver.ensures.unchanged
