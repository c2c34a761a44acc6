use Rattle.std.proofs.Common.{◌≡◌, ◌<◌, Some, refl, ap, sym, subst, ◌∙◌, arith}
use Rattle.std.specs.List.{position}
use Rattle.std.specs.BTreeMap.{get_by_text}
use Rattle.drf_pick.specs.Shares.{at_first, is_role, weighing}
use Rattle.drf_pick.proofs.Places.{first_at}
use Rattle.drf_pick.proofs.FoundRoles.{IsTable, table_changed}
use Rattle.drf_pick.proofs.roles.Roles.weigh.Goals as goal

pub invariant_of-self : goal.invariant_of-self
invariant_of-self c =
    let s = c.self-2.inside in
    let role = c.args.role.now in
    let change = weighing c.args.weight in
    let places = get_by_text s.places in
    let at : position (is_role role) s.sums.items ≡ Some c.in_ok-place.place = ap (position (is_role role)) c.self-2.view_is ∙ c.in_ok-place.ensures.place in
    let first = first_at (is_role role) s.sums.items c.in_ok-place.place c.index_mut.result.now at c.index_mut.ensures.value in
    let some : 0 < c.args.weight = omega (arith, c.requires.0) in
    (subst (IsTable places) (first.changed change) (table_changed places role change s.sums.items (λ r. refl) (λ r was. some) c.self-2.invariant.0), c.self-2.invariant.1)

pub returns-clause-ok : goal.returns-clause-ok
returns-clause-ok c =
    let s = c.self-2.inside in
    let role = c.args.role.now in
    let change = weighing c.args.weight in
    let at : position (is_role role) s.sums.items ≡ Some c.in_ok-place.place = ap (position (is_role role)) c.self-2.view_is ∙ c.in_ok-place.ensures.place in
    let first = first_at (is_role role) s.sums.items c.in_ok-place.place c.index_mut.result.now at c.index_mut.ensures.value in
    sym (first.changed change) ∙ ap (at_first (is_role role) change) (c.self-2.view_is ∙ c.in_ok-place.ensures.ok)
