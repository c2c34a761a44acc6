use Rattle.std.proofs.Common.{rules}
use Rattle.desk_agents.proofs.Ends.{seen_so}
use Rattle.desk_agents.proofs.declines.Watch.open_offers.Goals as goal

pub returns : goal.returns
returns g c = seen_so _ _ _ _ c.wait.result c.wait.ensures.found (λ found state says. (let met = says.says.met in let shows = says.shows in search rules))
