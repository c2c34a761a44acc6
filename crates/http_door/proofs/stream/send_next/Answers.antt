use Rattle.std.proofs.Common.{◌∷◌, [], Some, Ok, Err, refl}
use Rattle.http_door.specs.Deeds.{nexts}
use Rattle.http_door.specs.Turns.{unsent, untaken}
use Rattle.http_door.proofs.stream.send_next.Goals as goal

pub returns-in-Ok-clause-sent : goal.returns-in-Ok-clause-sent
returns-in-Ok-clause-sent g c =
    let did = rw c.in-Ok-Some.field-0-is at c.in-Ok-Some.ensures in
    let sent = c.in-Ok.ensures.sent in
    (nexts c.args.stream (Ok (Some c.in-Ok-Some.event)) ∷ [], sent.0, (c.next_events.new.self, did, refl), sent.1, (c.in-Ok-Some.event, refl, sent.2))

pub returns-in-Ok-Some-clause-sent : goal.returns-in-Ok-Some-clause-sent
returns-in-Ok-Some-clause-sent g c =
    let did = rw c.in-Ok-Some.field-0-is at c.in-Ok-Some.ensures in
    let sent = c.in-Err-send_event.ensures.sent in
    (nexts c.args.stream (Ok (Some c.in-Ok-Some.event)) ∷ [], sent.0, (c.next_events.new.self, did, refl), sent.1, unsent c.in-Ok-Some.event sent.2.0 refl sent.2.1)

pub returns-clause-sent : goal.returns-clause-sent
returns-clause-sent g c =
    (nexts c.args.stream (Err c.in-Err.field-0) ∷ [], [], (c.next_events.new.self, c.in-Err.ensures, refl), g.met.O.Outlet.writes_nothing _, untaken c.in-Err.field-0 refl refl)
