use Rattle.http_door.proofs.Exchanges.{exchange_one}
use Rattle.http_door.proofs.exchange.exchange_is_a_function.Goals as goal

pub returns : goal.returns
returns g c = exchange_one (g.I.Inlet.ended c.args.one.now) (g.J.Inlet.ended c.args.other.now)
