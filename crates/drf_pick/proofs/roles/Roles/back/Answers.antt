use Rattle.std.proofs.Common.{refl, sym, ◌∙◌}
use Rattle.std.specs.BTreeMap.{get_by_text}
use Rattle.drf_pick.specs.Shares.{is_role, at_first, role_returning}
use Rattle.drf_pick.proofs.Places.{none_at}
use Rattle.drf_pick.proofs.FoundRoles.{IsTable, either, table_changed}
use Rattle.drf_pick.proofs.roles.Roles.back.Goals as goal

pub returns-in_default-clause-refused : goal.returns-in_default-clause-refused
returns-in_default-clause-refused c = λ e. rw (none_at (is_role c.args.role.now) c.args.self.now (sym c.place.ensures ∙ c.in_default.is)) refl

pub invariant_of-self : goal.invariant_of-self
invariant_of-self c =
    let rs = c.self.inside.sums.items in
    let places = get_by_text c.self.inside.places in
    let change = role_returning c.args.resources.now in (
      either c.back_at.result (IsTable places) rs c.back_at.new.sums.items (at_first (is_role c.args.role.now) change rs) c.back_at.ensures.ok c.back_at.ensures.err c.self.invariant.0
          (table_changed places c.args.role.now change rs (λ r. refl) (λ r some. some) c.self.invariant.0),
      c.self.invariant.1,
    )
