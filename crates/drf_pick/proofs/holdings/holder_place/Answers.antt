use Rattle.std.proofs.Common.{sym, ◌∙◌, arith}
use Rattle.drf_pick.proofs.Once.{placed}
use Rattle.drf_pick.proofs.holdings.holder_place.Goals as goal

pub returns-then-is_of : goal.returns-then-is_of
returns-then-is_of c = sym (placed c.args.framework c.args.holders.now c.partition_point-place.result c.index-holders-place.result c.requires (omega arith) c.index-holders-place.is (sym c.is_of.ensures ∙ c.if-is_of.true))
