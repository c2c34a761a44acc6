use Rattle.std.proofs.Common.{ap, sym, ◌∙◌, subst, arith}
use Rattle.std.specs.List.{position}
use Rattle.drf_pick.specs.Shares.{RolesOnce, is_role}
use Rattle.drf_pick.proofs.OnceRoles.{placed_role}
use Rattle.drf_pick.proofs.roles.Roles.place.Goals as goal

pub returns-then-is_of : goal.returns-then-is_of
returns-then-is_of c =
    let is = c.as_slice-sums.ensures.sums in
    let once = subst RolesOnce (sym is) c.as_slice-sums.ensures.once in
    sym (placed_role c.args.role.now c.as_slice-sums.result.now c.args.guess c.index-sums-guess.result once (omega arith) c.index-sums-guess.is (sym c.is_of.ensures ∙ c.if-is_of.true)) ∙ ap (position (is_role c.args.role.now)) is
