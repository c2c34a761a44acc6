use Rattle.std.proofs.Common.{sym, refl, ◌∙◌}
use Rattle.drf_pick.proofs.UpTo.{none_behind}
use Rattle.drf_pick.proofs.holdings.is_known.Goals as goal

pub returns-then-is_behind : goal.returns-then-is_behind
returns-then-is_behind c = rw (none_behind c.args.last c.args.framework c.args.holders.now (sym c.is_behind.ensures ∙ c.if-is_behind.true) c.requires.up_to) refl
