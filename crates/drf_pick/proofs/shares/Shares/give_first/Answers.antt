use Rattle.std.proofs.Common.{◌≡◌, None, length, subst, sym, ap, ◌∙◌}
use Rattle.std.specs.List.{find}
use Rattle.drf_pick.specs.Shares.{Tally, is_holder}
use Rattle.drf_pick.specs.Fractions.{OfHolders, OfOthers, OfRoles, OfRolesBut, holder_held, role_held}
use Rattle.drf_pick.proofs.KeptShares.{cut_to, kept_to}
use Rattle.drf_pick.proofs.ChangedShares.{first_other_roles, first_others}
use Rattle.drf_pick.proofs.shares.Shares.give_first.Goals as goal

pub invariant_of-self : goal.invariant_of-self
invariant_of-self c =
    let s = c.self.inside in
    let t : Tally = s.holdings in
    (cut_to holder_held t.totals t.holders s.fractions.items c.keep_nothing.new.fractions.items _ (ap length c.holders.ensures) c.in_err-keep_nothing.ensures.err c.self.invariant.0, c.self.invariant.1)

pub invariant_of-self-in_err-keep_nothing-2 : goal.invariant_of-self-in_err-keep_nothing-2
invariant_of-self-in_err-keep_nothing-2 c =
    let s = c.self.inside in
    let t : Tally = s.holdings in (
      kept_to holder_held t.totals t.holders s.fractions.items c.keep_nothing.new.fractions.items _ (ap length c.holders.ensures) c.in_ok-keep_nothing.ensures.ok c.self.invariant.0,
      cut_to role_held t.totals t.roles s.role_fractions.items c.keep_nothing-2.new.fractions.items c.len.result (c.len.ensures ∙ ap length c.roles.ensures) c.in_err-keep_nothing-2.ensures.err c.self.invariant.1,
    )

pub invariant_of-self-in_err-give : goal.invariant_of-self-in_err-give
invariant_of-self-in_err-give c =
    let s = c.self.inside in
    let t : Tally = s.holdings in
    let is = sym c.in_err-give.ensures.err in (
      subst (λ (x : Tally). OfHolders x.totals x.holders c.keep_nothing.new.fractions.items) is (kept_to holder_held t.totals t.holders s.fractions.items c.keep_nothing.new.fractions.items _ (ap length c.holders.ensures) c.in_ok-keep_nothing.ensures.ok c.self.invariant.0),
      subst (λ (x : Tally). OfRoles x.totals x.roles c.keep_nothing-2.new.fractions.items) is (kept_to role_held t.totals t.roles s.role_fractions.items c.keep_nothing-2.new.fractions.items c.len.result (c.len.ensures ∙ ap length c.roles.ensures) c.in_ok-keep_nothing-2.ensures.ok c.self.invariant.1),
    )

pub renew_of-requires-clause-holders : goal.renew_of-requires-clause-holders
renew_of-requires-clause-holders c =
    let s = c.self.inside in
    let t : Tally = s.holdings in
    let f = c.args.framework in
    let none : find (is_holder f) t.holders ≡ None = ap (λ (x : Tally). find (is_holder f) x.holders) c.self.view_is ∙ c.requires.new in
    subst (λ (x : Tally). OfOthers f x.totals x.holders c.keep_nothing.new.fractions.items) (sym c.in_ok-give.ensures.ok) (first_others f c.args.resources.now t s.fractions.items c.keep_nothing.new.fractions.items _ none (ap length c.holders.ensures) c.in_ok-keep_nothing.ensures.ok c.self.invariant.0)

pub renew_of-requires-clause-roles : goal.renew_of-requires-clause-roles
renew_of-requires-clause-roles c =
    let s = c.self.inside in
    let t : Tally = s.holdings in
    let f = c.args.framework in
    let none : find (is_holder f) t.holders ≡ None = ap (λ (x : Tally). find (is_holder f) x.holders) c.self.view_is ∙ c.requires.new in
    subst (λ (x : Tally). OfRolesBut (find (is_holder f) x.holders) x.totals x.roles c.keep_nothing-2.new.fractions.items) (sym c.in_ok-give.ensures.ok) (first_other_roles f c.args.resources.now t s.role_fractions.items c.keep_nothing-2.new.fractions.items c.len.result none (c.len.ensures ∙ ap length c.roles.ensures) c.in_ok-keep_nothing-2.ensures.ok c.self.invariant.1)
