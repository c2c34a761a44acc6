use Rattle.std.proofs.Common.{refl, sym, ◌∙◌}
use Rattle.std.specs.BTreeMap.{get_by_text}
use Rattle.drf_pick.specs.Shares.{is_role, at_first, role_holding}
use Rattle.drf_pick.proofs.Places.{none_at, unchanged}
use Rattle.drf_pick.proofs.FoundRoles.{IsTable, either, table_changed}
use Rattle.drf_pick.proofs.roles.Roles.give.Goals as goal

pub returns-in_default-clause-ok : goal.returns-in_default-clause-ok
returns-in_default-clause-ok c =
    let test = is_role c.args.role.now in
    unchanged test (role_holding c.args.resources.now) c.args.self.now (none_at test c.args.self.now (sym c.place.ensures ∙ c.in_default.is))

pub invariant_of-self : goal.invariant_of-self
invariant_of-self c =
    let rs = c.self.inside.sums.items in
    let places = get_by_text c.self.inside.places in
    let change = role_holding c.args.resources.now in (
      either c.give_at.result (IsTable places) rs c.give_at.new.sums.items (at_first (is_role c.args.role.now) change rs) c.give_at.ensures.ok c.give_at.ensures.err c.self.invariant.0
          (table_changed places c.args.role.now change rs (λ r. refl) (λ r some. some) c.self.invariant.0),
      c.self.invariant.1,
    )
