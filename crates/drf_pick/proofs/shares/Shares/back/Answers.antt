use Rattle.std.proofs.Common.{sym, subst}
use Rattle.std.specs.List.{find}
use Rattle.drf_pick.specs.Shares.{Tally, is_holder}
use Rattle.drf_pick.specs.Fractions.{OfOthers, OfRolesBut}
use Rattle.drf_pick.proofs.ChangedShares.{returned_other_roles, returned_others}
use Rattle.drf_pick.proofs.shares.Shares.back.Goals as goal

pub renew_of-requires-clause-holders : goal.renew_of-requires-clause-holders
renew_of-requires-clause-holders c =
    let s = c.self.inside in
    let t : Tally = s.holdings in
    let f = c.args.framework in
    subst (λ (x : Tally). OfOthers f x.totals x.holders s.fractions.items) (sym c.in-Ok.ensures.ok) (returned_others f c.args.resources.now t.totals t.holders s.fractions.items c.self.invariant.0)

pub renew_of-requires-clause-roles : goal.renew_of-requires-clause-roles
renew_of-requires-clause-roles c =
    let s = c.self.inside in
    let t : Tally = s.holdings in
    let f = c.args.framework in
    subst (λ (x : Tally). OfRolesBut (find (is_holder f) x.holders) x.totals x.roles s.role_fractions.items) (sym c.in-Ok.ensures.ok) (returned_other_roles f c.args.resources.now t.totals t.holders t.roles s.role_fractions.items c.self.invariant.1)
