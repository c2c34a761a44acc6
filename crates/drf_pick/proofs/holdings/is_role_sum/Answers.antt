use Rattle.std.proofs.Common.{◌≡◌, Option, get_or, IfSome, ap, sym, subst, ◌∙◌}
use Rattle.drf_shares.specs.Sums.{IsSum}
use Rattle.drf_pick.specs.Shares.{RoleSum, is_role}
use Rattle.drf_pick.proofs.Places.{first_at, none_at}
use Rattle.drf_pick.proofs.holdings.is_role_sum.Goals as goal

pub returns-in_default : goal.returns-in_default
returns-in_default c =
    let test = is_role c.args.role.now in
    subst (λ (o : Option RoleSum). IfSome o (λ r. IsSum r.held)) (sym (none_at test c.args.roles.now (sym c.place.ensures ∙ c.in_default.is))) tt

pub returns-in-Some : goal.returns-in-Some
returns-in-Some c =
    let test = is_role c.args.role.now in
    let rs = c.args.roles.now in
    let item = c.index-as_slice-place.result in
    let is : item ≡ get_or rs c.in-Some.place item = c.index-as_slice-place.is ∙ ap (λ xs. get_or xs c.in-Some.place item) c.as_slice.ensures.sums in
    let first = first_at test rs c.in-Some.place item (sym c.place.ensures ∙ c.in-Some.is) is in
    subst (λ (o : Option RoleSum). IfSome o (λ r. IsSum r.held)) (sym first.found) (subst (λ (x : RoleSum). IsSum x.held) (sym c.index-as_slice-place.is) c.rows-held.ensures.sum)
