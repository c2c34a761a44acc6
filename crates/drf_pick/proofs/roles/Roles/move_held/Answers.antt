use Rattle.std.proofs.Common.{List, Bool, cond, ap, sym, ◌∙◌}
use Rattle.quantity.specs.declared.rows.Row.{Row}
use Rattle.quantity.specs.Rows.{rest_of}
use Rattle.drf_pick.specs.Least.{role_share}
use Rattle.drf_pick.specs.Shares.{RoleSum, at_first, is_role, role_given, role_returning, with_held}
use Rattle.drf_pick.proofs.RoleSums.{moved_so}
use Rattle.drf_pick.proofs.roles.Roles.move_held.Goals as goal

pub returns-clause-ok : goal.returns-clause-ok
returns-clause-ok c =
    let from = c.args.from.now in
    let to = c.args.to.now in
    let rows = c.args.held.now in
    let rs = c.args.self.now in
    c.keep.ensures
    ∙ ap (λ (held : List Row). at_first (is_role from) (with_held held) c.raise.new.self) c.in_ok-rest.ensures
    ∙ ap (λ (qs : List RoleSum). at_first (is_role from) (with_held (rest_of (role_share rs from).held rows)) qs) c.in_ok-place.ensures.ok
    ∙ moved_so from to rows rs c.requires.other
    ∙ sym (ap (λ (b : Bool). cond b rs (at_first (is_role from) (role_returning rows) (role_given to rows rs))) c.requires.other)
