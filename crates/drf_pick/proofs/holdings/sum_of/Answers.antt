use Rattle.std.proofs.Common.{ℕ, ap, arith}
use Rattle.quantity.specs.Rows.{amount}
use Rattle.quantity.proofs.Sums.{sums_add_up}
use Rattle.drf_pick.specs.Shares.{Holder}
use Rattle.drf_pick.proofs.HeldRows.{taken_held, taken_more}
use Rattle.drf_pick.proofs.holdings.sum_of.Goals as goal

pub plus_sum-requires : goal.plus_sum-requires
plus_sum-requires c = λ name.
    let hs = c.args.holders.now in
    let i : ℕ = c.loop-holder.holder-index in
    let h : Holder = c.holder-item.result in
    omega (arith, c.loop-holder.invariant name, taken_held name hs i h (omega arith) c.holder-item.is, c.requires name)

pub loop-holder-preserved : goal.loop-holder-preserved
loop-holder-preserved c = λ name.
    let hs = c.args.holders.now in
    let i : ℕ = c.loop-holder.holder-index in
    let h : Holder = c.holder-item.result in
    omega (arith, ap (amount name) c.in_ok-sum.ensures, sums_add_up c.loop-holder.sum h.held name, c.loop-holder.invariant name, taken_more name hs i h (omega arith) c.holder-item.is)
