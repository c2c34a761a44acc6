use Rattle.std.proofs.Common.{sym, subst}
use Rattle.drf_pick.specs.Shown.{HoldSums}
use Rattle.drf_pick.proofs.RoleSums.{back_sums}
use Rattle.drf_pick.proofs.holdings.Holdings.back.Goals as goal

pub invariant_of-self : goal.invariant_of-self
invariant_of-self c =
    let s = c.self.inside in
    let hs = s.holders.items in
    let f = c.args.framework in
    let rows = c.args.resources.now in
    let held : HoldSums f (record { totals = s.totals; holders = hs; roles = s.roles }) = subst (HoldSums f) (sym c.self.view_is) c.is_registered.ensures.sums in
    back_sums f rows s.last hs c.back_in.new.holders.items s.roles c.back_in.new.roles c.back_in.result held c.back_in.ensures.covered c.back_in.ensures.holders c.back_in.ensures.roles c.back_in.ensures.same_holders c.back_in.ensures.same_roles c.self.invariant
