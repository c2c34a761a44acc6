use Rattle.std.proofs.Common.{◌≡◌, ◌++◌, ◌∷◌, None, Some, [], List, ap, sym, subst, ◌∙◌, arith}
use Rattle.quantity.specs.declared.rows.Row.{Row}
use Rattle.quantity.specs.Rows.{amount}
use Rattle.quantity.proofs.Sums.{sums_add_up}
use Rattle.drf_shares.specs.Sums.{CanAdd, plus_rows}
use Rattle.std.specs.List.{find}
use Rattle.drf_pick.specs.RoleSums.{AreSums}
use Rattle.drf_pick.specs.Shares.{AreUpTo, CanHold, Holder, HoldersOnce, Tally, all_held, holder_with, is_holder, role_given}
use Rattle.drf_pick.proofs.Once.{once_push}
use Rattle.drf_pick.proofs.RoleSums.{first_sums, role_room}
use Rattle.drf_pick.proofs.holdings.Holdings.give_first.Goals as goal

pub add_holding-requires : goal.add_holding-requires
add_holding-requires c =
    let s = c.self.inside in
    let rows = c.args.resources.now in
    let held : c.in_ok-held.held ≡ plus_rows [] rows = c.in_ok-held.ensures ∙ ap (λ (xs : List Row). plus_rows xs rows) c.new.ensures in
    let room : CanAdd (all_held s.holders.items) rows = subst (CanHold rows) (sym c.self.view_is) c.requires.room in
    let can : CanAdd (all_held s.holders.items) c.in_ok-held.held = λ name. omega (arith, room name, ap (amount name) held, sums_add_up [] rows name) in
    role_room c.in_ok-held.held s.holders.items s.roles c.in_ok-role.role c.self.invariant.2 can

pub invariant_of-self-2 : goal.invariant_of-self-2
invariant_of-self-2 c =
    let s = c.self.inside in
    let hs = s.holders.items in
    let f = c.args.framework in
    let rows = c.args.resources.now in
    let role = c.in_ok-role.role in
    let own = c.in_ok-held.held in
    let held : own ≡ plus_rows [] rows = c.in_ok-held.ensures ∙ ap (λ (xs : List Row). plus_rows xs rows) c.new.ensures in
    let room : CanAdd (all_held hs) rows = subst (CanHold rows) (sym c.self.view_is) c.requires.room in
    let can : CanAdd (all_held hs) own = λ name. omega (arith, room name, ap (amount name) held, sums_add_up [] rows name) in
    let none : find (is_holder f) hs ≡ None = ap (λ (t : Tally). find (is_holder f) t.holders) c.self.view_is ∙ c.requires.new in
    let is = sym c.in_ok-add_holding.ensures.holders in
    let sums : AreSums (hs ++ holder_with f role own ∷ []) (role_given role own s.roles) = first_sums f role own hs s.roles c.self.invariant.2 can in (
      subst (AreUpTo (Some c.later.result)) is (c.later.ensures hs role own c.self.invariant.0),
      subst HoldersOnce is (once_push hs (holder_with f role own) c.self.invariant.1 none),
      subst (λ (ks : List Holder). AreSums ks c.add_holding.new.roles) is (subst (AreSums (hs ++ holder_with f role own ∷ [])) (sym c.in_ok-add_holding.ensures.roles) sums),
    )
