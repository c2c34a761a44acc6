use Rattle.http_door.proofs.send.send.Goals as goal

pub returns-clause-sent : goal.returns-clause-sent
returns-clause-sent g c =
    let did = c.write_whole.ensures.sent in
    (did.0, g.met.O.Outlet.writes_more _ _ _ _ _ c.begin_text.ensures.unwritten did.1, did.2)
