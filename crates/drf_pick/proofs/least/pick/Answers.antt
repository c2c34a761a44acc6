use Rattle.std.proofs.Common.{ap, sym, ◌∙◌}
use Rattle.std.specs.Option.{option_copied}
use Rattle.drf_pick.proofs.Picked.{none_picked, some_picked}
use Rattle.drf_pick.proofs.least.pick.Goals as goal

pub returns-in-None : goal.returns-in-None
returns-in-None c = none_picked c.args.shares.now c.args.clients.now (sym c.best_of.ensures ∙ ap option_copied c.in-None.is)

pub returns-in-Some : goal.returns-in-Some
returns-in-Some c =
    some_picked c.args.shares.now (c.are_sound.ensures.positive, c.are_sound.ensures.weighed) c.args.clients.now c.in-Some.client.now (sym c.best_of.ensures ∙ ap option_copied c.in-Some.is)
