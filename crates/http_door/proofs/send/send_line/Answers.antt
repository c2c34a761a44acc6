use Rattle.std.proofs.Common.{◌++◌, ◌∷◌, [], ◌∙◌}
use Rattle.http_door.proofs.Sent.{front_of, sends_behind}
use Rattle.http_door.proofs.send.send_line.Goals as goal

pub returns-in-Ok-clause-sent : goal.returns-in-Ok-clause-sent
returns-in-Ok-clause-sent g c =
    let first = c.in-Ok.ensures.sent in
    let second = c.write_whole-in-Ok.ensures.sent in (
      first.0 ++ second.0,
      g.met.O.Outlet.writes_more _ _ _ _ _ first.1 second.1,
      sends_behind c.write_whole-in-Ok.result first.0 c.args.text.now (13 ∷ 10 ∷ []) second.0 first.2 second.2,
    )

pub returns-in-Err-clause-sent : goal.returns-in-Err-clause-sent
returns-in-Err-clause-sent g c =
    let first = c.in-Err.ensures.sent in
    let j = front_of first.2.0 c.args.text.now (13 ∷ 10 ∷ []) in
    (first.0, first.1, (j.0, first.2.1 ∙ j.1))
