use Rattle.std.proofs.Common.{◌++◌, ◌∷◌, [], ◌∙◌}
use Rattle.http_door.proofs.Sent.{front_of, sends_behind, fails}
use Rattle.http_door.proofs.send.send_parts.Goals as goal

pub returns-in-Err-clause-sent : goal.returns-in-Err-clause-sent
returns-in-Err-clause-sent g c =
    let first = c.in-Err.ensures.sent in
    let behind = c.args.record_line.now ++ (c.args.text.now ++ 13 ∷ 10 ∷ []) in
    let j = front_of first.2.0 c.args.chunk_line.now behind in
    (first.0, first.1, (j.0, first.2.1 ∙ j.1))

pub returns-in-Err-write_whole-clause-sent : goal.returns-in-Err-write_whole-clause-sent
returns-in-Err-write_whole-clause-sent g c =
    let first = c.in-Ok.ensures.sent in
    let second = c.in-Err-write_whole.ensures.sent in
    let line = c.args.text.now ++ 13 ∷ 10 ∷ [] in
    let j = front_of second.2.0 c.args.record_line.now line in (
      first.0 ++ second.0,
      g.met.O.Outlet.writes_more _ _ _ _ _ first.1 second.1,
      sends_behind (fails c.in-Err-write_whole.fault) first.0 c.args.chunk_line.now (c.args.record_line.now ++ line) second.0 first.2 (j.0, second.2.1 ∙ j.1),
    )

pub returns-clause-sent : goal.returns-clause-sent
returns-clause-sent g c =
    let first = c.in-Ok.ensures.sent in
    let second = c.in-Ok-write_whole.ensures.sent in
    let third = c.send_line.ensures.sent in
    let line = c.args.text.now ++ 13 ∷ 10 ∷ [] in (
      first.0 ++ (second.0 ++ third.0),
      g.met.O.Outlet.writes_more _ _ _ _ _ first.1 (g.met.O.Outlet.writes_more _ _ _ _ _ second.1 third.1),
      sends_behind c.send_line.result first.0 c.args.chunk_line.now (c.args.record_line.now ++ line) (second.0 ++ third.0) first.2
          (sends_behind c.send_line.result second.0 c.args.record_line.now line third.0 second.2 third.2),
    )
