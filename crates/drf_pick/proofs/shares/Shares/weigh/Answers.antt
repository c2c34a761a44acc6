use Rattle.std.proofs.Common.{length, subst, sym, ap, ◌∙◌}
use Rattle.drf_pick.specs.Shares.{Tally}
use Rattle.drf_pick.specs.Fractions.{OfHolders, OfRoles, role_held}
use Rattle.drf_pick.proofs.KeptShares.{cut_to, kept_to}
use Rattle.drf_pick.proofs.ChangedShares.{weighed_fractions}
use Rattle.drf_pick.proofs.shares.Shares.weigh.Goals as goal

pub invariant_of-self : goal.invariant_of-self
invariant_of-self c =
    let s = c.self.inside in
    let t : Tally = s.holdings in
    (c.self.invariant.0, cut_to role_held t.totals t.roles s.role_fractions.items c.keep_nothing.new.fractions.items c.len.result (c.len.ensures ∙ ap length c.roles.ensures) c.in_err-keep_nothing.ensures.err c.self.invariant.1)

pub invariant_of-self-in_err-weigh : goal.invariant_of-self-in_err-weigh
invariant_of-self-in_err-weigh c =
    let s = c.self.inside in
    let t : Tally = s.holdings in
    let is = sym c.in_err-weigh.ensures.err in (
      subst (λ (x : Tally). OfHolders x.totals x.holders s.fractions.items) is c.self.invariant.0,
      subst (λ (x : Tally). OfRoles x.totals x.roles c.keep_nothing.new.fractions.items) is (kept_to role_held t.totals t.roles s.role_fractions.items c.keep_nothing.new.fractions.items c.len.result (c.len.ensures ∙ ap length c.roles.ensures) c.in_ok-keep_nothing.ensures.ok c.self.invariant.1),
    )

pub invariant_of-self-2 : goal.invariant_of-self-2
invariant_of-self-2 c =
    let s = c.self.inside in
    let t : Tally = s.holdings in
    let is = sym c.in_ok-weigh.ensures.ok in (
      subst (λ (x : Tally). OfHolders x.totals x.holders s.fractions.items) is c.self.invariant.0,
      subst (λ (x : Tally). OfRoles x.totals x.roles c.keep_nothing.new.fractions.items) is (weighed_fractions c.args.role.now c.args.weight t.totals t.roles s.role_fractions.items c.keep_nothing.new.fractions.items c.len.result (c.len.ensures ∙ ap length c.roles.ensures) c.in_ok-keep_nothing.ensures.ok c.self.invariant.1),
    )
