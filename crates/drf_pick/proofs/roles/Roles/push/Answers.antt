use Rattle.std.proofs.Common.{◌≡◌, ℕ, List, None, bytes_eq, cond, Some, length, string_bytes, ap, sym, ◌∙◌, subst, arith}
use Rattle.std.specs.BTreeMap.{get_by_text}
use Rattle.std.specs.List.{find}
use Rattle.drf_pick.specs.Shares.{is_role}
use Rattle.drf_pick.specs.Places.{AreRanks}
use Rattle.drf_pick.proofs.Ranked.{unranked}
use Rattle.drf_pick.proofs.FoundRoles.{IsTable, inserted, looked, more, table_pushed}
use Rattle.drf_pick.proofs.roles.Roles.push.Goals as goal

pub invariant_of-self-in-Ok : goal.invariant_of-self-in-Ok
invariant_of-self-in-Ok c =
    let s = c.self.inside in
    let rs = s.sums.items in
    let name = c.args.role.now in
    let count : ℕ = c.len-count.result in
    let all : count ≡ length rs = omega (arith, c.len-count.ensures, s.sums.ok.0) in
    let none : find (is_role name) rs ≡ None = ap (find (is_role name)) c.self.view_is ∙ c.requires in
    let is : string_bytes c.in_ok-name.name ≡ name = c.in_ok-name.ensures.ok ∙ c.as_text.ensures.text in
    let now : (role : List ℕ) → get_by_text c.insert.new.self role ≡ more (get_by_text s.places) name count role = λ role.
    ap (looked role) c.in-Ok.ensures.entries ∙ inserted s.places.entries c.in_ok-name.name count role
    ∙ ap (λ (n : List ℕ). cond (bytes_eq n role) (Some count) (get_by_text s.places role)) is in (
      subst (IsTable (get_by_text c.insert.new.self)) (sym c.in_ok-push_sum.ensures.ok)
          (table_pushed (get_by_text s.places) (get_by_text c.insert.new.self) name c.args.held rs count all none now c.self.invariant.0),
      subst (AreRanks (get_by_text c.insert.new.self)) (sym c.clear.ensures.items) (unranked (get_by_text c.insert.new.self)),
    )
