use Rattle.std.proofs.Common.{List}
use Rattle.drf_pick.specs.RoleSums.{AreSums}
use Rattle.drf_pick.specs.Shares.{AreUpTo, HoldersOnce, RoleSum, roles_weighed}
use Rattle.drf_pick.proofs.FoundRoles.{either}
use Rattle.drf_pick.proofs.RoleSums.{weighed_sums}
use Rattle.drf_pick.proofs.holdings.Holdings.weigh.Goals as goal

pub invariant_of-self : goal.invariant_of-self
invariant_of-self c =
    let s = c.self.inside in
    let hs = s.holders.items in
    let role = c.args.role.now in
    either c.weigh.result (λ (rs : List RoleSum). AreUpTo s.last hs × HoldersOnce hs × AreSums hs rs) s.roles c.weigh.new.self (roles_weighed role c.args.weight s.roles) c.weigh.ensures.ok c.weigh.ensures.err c.self.invariant
    (c.self.invariant.0, c.self.invariant.1, weighed_sums role c.args.weight hs s.roles c.self.invariant.2)
