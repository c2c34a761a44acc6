use Rattle.std.proofs.Common.{sym, subst}
use Rattle.drf_pick.specs.Least.{IsPick}
use Rattle.master_rounds.specs.Picks.{eligible_clients}
use Rattle.master_rounds.proofs.EligiblePicks.{picked_is}
use Rattle.master_rounds.proofs.shares.pick.picked.Goals as goal

pub returns-clause-pick : goal.returns-clause-pick
returns-clause-pick c =
    let now = c.args.now in
    let agent = c.args.agent.now in
    let free = c.args.free.now in
    let t = c.args.shares.now in
    let fs = c.args.frameworks.now in
    subst (IsPick t (eligible_clients now agent free fs)) (sym c.picked_of.ensures) (picked_is now agent free t fs (c.are_sound.ensures.positive, c.are_sound.ensures.weighed))
