use Rattle.std.proofs.Common.{◌++◌, [], take, ap, ◌∙◌, refl}
use Rattle.http_head.specs.Responses.{subscribed_response, last_chunk}
use Rattle.http_door.specs.Exchange.{nothing}
use Rattle.http_door.proofs.Sent.{front_of}
use Rattle.http_door.proofs.Events.{stream_sent}
use Rattle.http_door.proofs.stream.send_stream.Goals as goal

pub returns-in-Err-clause-sent : goal.returns-in-Err-clause-sent
returns-in-Err-clause-sent g c = ([], [], refl, g.met.O.Outlet.writes_nothing _, ([], [], 0, nothing refl, refl, refl))

pub returns-in-Ok-send-clause-sent : goal.returns-in-Ok-send-clause-sent
returns-in-Ok-send-clause-sent g c =
    let first = c.in-Ok-send.ensures.sent in
    let then = c.send_events.ensures.sent in (
      then.0,
      first.0 ++ then.1,
      then.2,
      g.met.O.Outlet.writes_more _ _ _ _ _ first.1 then.3,
      stream_sent c.send_events.result c.args.stream then.0 first.0 then.1 (first.2 ∙ c.deref.ensures.value ∙ c.in-Ok.ensures) then.4,
    )

pub returns-clause-sent : goal.returns-clause-sent
returns-clause-sent g c =
    let first = c.in-Err-send.ensures.sent in
    let j = front_of first.2.0 (subscribed_response c.args.stream) last_chunk in
    ([], first.0, refl, first.1, ([], [], j.0, nothing refl, refl, first.2.1 ∙ ap (take first.2.0) (c.deref.ensures.value ∙ c.in-Ok.ensures) ∙ j.1))
