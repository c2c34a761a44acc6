use Rattle.std.proofs.Common.{sym, ◌∙◌}
use Rattle.drf_pick.specs.Shares.{is_holder}
use Rattle.drf_pick.proofs.Places.{nowhere}
use Rattle.drf_pick.proofs.UpTo.{none_behind}
use Rattle.drf_pick.proofs.holdings.known_place.Goals as goal

pub returns-then-is_behind : goal.returns-then-is_behind
returns-then-is_behind c =
    sym (nowhere (is_holder c.args.framework) c.args.holders.now
    (none_behind c.args.last c.args.framework c.args.holders.now (sym c.is_behind.ensures ∙ c.if-is_behind.true) c.requires.up_to))
