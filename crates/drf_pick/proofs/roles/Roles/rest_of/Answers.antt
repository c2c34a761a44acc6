use Rattle.std.proofs.Common.{◌≡◌, List, Option, Some, IfOk, ap, sym, subst, ◌∙◌}
use Rattle.std.specs.List.{find, position}
use Rattle.quantity.specs.declared.rows.Row.{Row}
use Rattle.quantity.specs.Rows.{rest_of}
use Rattle.drf_pick.specs.Least.{role_share}
use Rattle.drf_pick.specs.Shares.{RoleSum, is_role}
use Rattle.drf_pick.proofs.Places.{first_at, none_at}
use Rattle.drf_pick.proofs.Shown.{held_of}
use Rattle.drf_pick.proofs.roles.Roles.rest_of.Goals as goal

pub returns-in-Some : goal.returns-in-Some
returns-in-Some c =
    let rs = c.self.inside.sums.items in
    let role = c.args.role.now in
    let at : position (is_role role) rs ≡ Some c.in-Some.place = ap (position (is_role role)) c.self.view_is ∙ sym c.place.ensures ∙ c.in-Some.is in
    let first = first_at (is_role role) rs c.in-Some.place c.index.result.now at c.index.ensures in
    let held : c.index.result.now.held ≡ (role_share c.args.self.now role).held = sym (ap (λ (o : Option RoleSum). held_of o) (ap (find (is_role role)) (sym c.self.view_is) ∙ first.found)) in
    subst (λ (rows : List Row). IfOk c.less_sum.result (λ rest. rest ≡ rest_of rows c.args.less.now)) held c.less_sum.ensures

pub returns-in-None : goal.returns-in-None
returns-in-None c =
    let test = is_role c.args.role.now in
    c.new.ensures ∙ sym (ap (λ (o : Option RoleSum). rest_of (held_of o) c.args.less.now) (none_at test c.args.self.now (sym c.place.ensures ∙ c.in-None.is)))
