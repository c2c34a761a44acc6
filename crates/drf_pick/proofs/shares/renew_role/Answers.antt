use Rattle.std.proofs.Common.{◌≡◌, List, Some, get_or, ap, sym, subst, ◌∙◌, arith}
use Rattle.std.specs.List.{position}
use Rattle.std.proofs.lemmas.List.Quantifiers.{position-Some}
use Rattle.quantity.specs.declared.rows.Row.{Row}
use Rattle.drf_shares.specs.Dominant.{IsDominant}
use Rattle.drf_pick.specs.Shares.{RoleSum, Tally, is_role}
use Rattle.drf_pick.specs.Fractions.{role_held}
use Rattle.drf_pick.proofs.KeptShares.{first_renewed, no_other, room_but}
use Rattle.drf_pick.proofs.Places.{none_at}
use Rattle.drf_pick.proofs.shares.renew_role.Goals as goal

pub returns-in_default : goal.returns-in_default
returns-in_default c =
    let test = is_role c.args.role.now in
    let t : Tally = c.args.holdings.now in
    no_other role_held test t.totals t.roles c.args.fractions.now.items (none_at test t.roles (sym c.role_place.ensures ∙ c.in_default.is)) c.requires

pub index_mut-requires : goal.index_mut-requires
index_mut-requires c =
    let test = is_role c.args.role.now in
    let t : Tally = c.args.holdings.now in
    let at : position test t.roles ≡ Some c.in-Some.place = sym c.role_place.ensures ∙ c.in-Some.is in
    let p = position-Some test t.roles c.in-Some.place c.index-sums-place.result at in
    omega (arith, p.0, room_but role_held test t.totals t.roles c.args.fractions.now.items c.requires, c.args.fractions.now.ok.0)

pub returns : goal.returns
returns c =
    let test = is_role c.args.role.now in
    let t : Tally = c.args.holdings.now in
    let item = c.index-sums-place.result in
    let all : c.as_slice-sums.result.now ≡ t.roles = c.as_slice-sums.ensures.sums ∙ c.roles.ensures in
    let is : item ≡ get_or t.roles c.in-Some.place item = c.index-sums-place.is ∙ ap (λ xs. get_or xs c.in-Some.place item) all in
    let at : position test t.roles ≡ Some c.in-Some.place = sym c.role_place.ensures ∙ c.in-Some.is in
    let p = position-Some test t.roles c.in-Some.place item at in
    let of_totals = subst (λ (rows : List Row). IsDominant rows (get_or c.as_slice-sums.result.now c.in-Some.place item).held c.dominant.result) c.totals.ensures c.dominant.ensures in
    let its = subst (λ (x : RoleSum). IsDominant t.totals x.held c.dominant.result) (sym c.index-sums-place.is) of_totals in
    first_renewed role_held test t.totals t.roles c.args.fractions.now.items c.in-Some.place item c.dominant.result p.0 is (ap test is ∙ p.1) p.2 c.requires its
