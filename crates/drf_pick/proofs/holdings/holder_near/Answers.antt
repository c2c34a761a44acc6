use Rattle.std.proofs.Common.{sym, ◌∙◌, arith}
use Rattle.drf_pick.proofs.Once.{placed}
use Rattle.drf_pick.proofs.holdings.holder_near.Goals as goal

pub returns-then-is_of : goal.returns-then-is_of
returns-then-is_of c =
    sym (placed c.args.framework c.args.holders.now c.args.guess c.index-holders-guess.result c.requires (omega arith) c.index-holders-guess.is (sym c.is_of.ensures ∙ c.if-is_of.true))
