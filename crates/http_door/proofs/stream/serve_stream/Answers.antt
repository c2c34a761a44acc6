use Rattle.std.proofs.Common.{◌++◌, ◌∷◌, [], refl}
use Rattle.http_door.specs.Deeds.{hangs_up}
use Rattle.http_door.proofs.Deeds.{chain_then, or_spent_before}
use Rattle.http_door.proofs.Events.{hung_up}
use Rattle.http_door.proofs.stream.serve_stream.Goals as goal

pub returns-in-Err-clause-sent : goal.returns-in-Err-clause-sent
returns-in-Err-clause-sent g c =
    let did = c.in-Err.ensures.sent in (
      did.0 ++ hangs_up c.args.stream ∷ [],
      did.1,
      chain_then g.B.Bench.does _ _ _ _ _ did.2 (c.hang_up.new.self, c.hang_up.ensures, refl),
      did.3,
      hung_up c.in-Err.fault c.args.stream did.0 did.1 did.4,
    )

pub returns-in-Err-clause-link : goal.returns-in-Err-clause-link
returns-in-Err-clause-link g c e =
    or_spent_before g.B.Bench.does _ _ _ (hangs_up c.args.stream ∷ []) (c.in-Err.ensures.link e) (c.hang_up.new.self, c.hang_up.ensures, refl)
