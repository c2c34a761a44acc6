use Rattle.std.proofs.Common.{◌≡◌, Some, refl, ap, sym, subst, ◌∙◌}
use Rattle.std.specs.List.{position}
use Rattle.std.specs.BTreeMap.{get_by_text}
use Rattle.drf_pick.specs.Shares.{at_first, is_role, with_held}
use Rattle.drf_pick.proofs.Places.{first_at, none_at, unchanged}
use Rattle.drf_pick.proofs.FoundRoles.{IsTable, table_changed}
use Rattle.drf_pick.proofs.roles.Roles.keep.Goals as goal

pub invariant_of-self : goal.invariant_of-self
invariant_of-self c =
    let rs = c.self.inside.sums.items in
    let role = c.args.role.now in
    let places = get_by_text c.self.inside.places in
    let change = with_held c.args.held in
    let at : position (is_role role) rs ≡ Some c.in-Some.place = ap (position (is_role role)) c.self.view_is ∙ sym c.place.ensures ∙ c.in-Some.is in
    let first = first_at (is_role role) rs c.in-Some.place c.index_mut.result.now at c.index_mut.ensures.value in
    (subst (IsTable places) (first.changed change) (table_changed places role change rs (λ r. refl) (λ r some. some) c.self.invariant.0), c.self.invariant.1)

pub returns-in-Some : goal.returns-in-Some
returns-in-Some c =
    let rs = c.self.inside.sums.items in
    let role = c.args.role.now in
    let change = with_held c.args.held in
    let at : position (is_role role) rs ≡ Some c.in-Some.place = ap (position (is_role role)) c.self.view_is ∙ sym c.place.ensures ∙ c.in-Some.is in
    let first = first_at (is_role role) rs c.in-Some.place c.index_mut.result.now at c.index_mut.ensures.value in
    sym (first.changed change) ∙ ap (at_first (is_role role) change) c.self.view_is

pub returns-in_default : goal.returns-in_default
returns-in_default c =
    let test = is_role c.args.role.now in
    unchanged test (with_held c.args.held) c.args.self.now (none_at test c.args.self.now (sym c.place.ensures ∙ c.in_default.is))
