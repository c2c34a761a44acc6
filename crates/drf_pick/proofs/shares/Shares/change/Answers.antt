use Rattle.std.proofs.Common.{◌≡◌, ◌≤◌, true, length, subst, sym, ap, ◌∙◌, arith}
use Rattle.std.specs.Prelude.{is_some}
use Rattle.std.specs.List.{find}
use Rattle.drf_pick.specs.Shares.{Tally, is_holder}
use Rattle.drf_pick.specs.Fractions.{OfHolders, OfRoles, role_held}
use Rattle.drf_pick.proofs.KeptShares.{cut_to, kept_to, many_kept, room}
use Rattle.drf_pick.proofs.ChangedShares.{changed_holders, changed_many}
use Rattle.drf_pick.proofs.shares.Shares.change.Goals as goal

pub invariant_of-self : goal.invariant_of-self
invariant_of-self c =
    let s = c.self.inside in
    let t : Tally = s.holdings in
    (c.self.invariant.0, cut_to role_held t.totals t.roles s.role_fractions.items c.keep_nothing.new.fractions.items c.len.result (c.len.ensures ∙ ap length c.roles.ensures) c.in_err-keep_nothing.ensures.err c.self.invariant.1)

pub invariant_of-self-in_err-role : goal.invariant_of-self-in_err-role
invariant_of-self-in_err-role c =
    let s = c.self.inside in
    let t : Tally = s.holdings in
    let is = sym c.in_err-role.ensures.err in (
      subst (λ (x : Tally). OfHolders x.totals x.holders s.fractions.items) is c.self.invariant.0,
      subst (λ (x : Tally). OfRoles x.totals x.roles c.keep_nothing.new.fractions.items) is (kept_to role_held t.totals t.roles s.role_fractions.items c.keep_nothing.new.fractions.items c.len.result (c.len.ensures ∙ ap length c.roles.ensures) c.in_ok-keep_nothing.ensures.ok c.self.invariant.1),
    )

pub renew_roles-requires : goal.renew_roles-requires
renew_roles-requires c =
    let s = c.self.inside in
    let t : Tally = s.holdings in
    let f = c.args.framework in
    let some : is_some (find (is_holder f) t.holders) ≡ true = ap (λ (x : Tally). is_some (find (is_holder f) x.holders)) c.self.view_is ∙ c.requires in
    let most = changed_many f c.args.role.now t some in
    let now = ap (λ (x : Tally). length x.roles) c.in_ok-role.ensures.ok in
    let count : c.len.result ≡ length t.roles = c.len.ensures ∙ ap length c.roles.ensures in
    let enough : length t.roles ≤ length s.role_fractions.items = room role_held t.totals t.roles s.role_fractions.items c.self.invariant.1 in
    let many = ap length c.in_ok-keep_nothing.ensures.ok ∙ many_kept c.len.result s.role_fractions.items _ (omega (arith, enough, count)) in
    omega (arith, most, now, count, many)

pub invariant_of-self-2 : goal.invariant_of-self-2
invariant_of-self-2 c =
    let s = c.self.inside in
    let t : Tally = s.holdings in
    let f = c.args.framework in
    let some : is_some (find (is_holder f) t.holders) ≡ true = ap (λ (x : Tally). is_some (find (is_holder f) x.holders)) c.self.view_is ∙ c.requires in
    (subst (λ (x : Tally). OfHolders x.totals x.holders s.fractions.items) (sym c.in_ok-role.ensures.ok) (changed_holders f c.args.role.now t s.fractions.items some c.self.invariant.0), c.renew_roles.ensures)
