use Rattle.std.proofs.Common.{◌≡◌, true, ap, sym, subst, ◌∙◌}
use Rattle.std.specs.Prelude.{is_some}
use Rattle.std.specs.List.{find}
use Rattle.drf_pick.specs.Shares.{Tally, held_more, is_holder}
use Rattle.drf_pick.specs.Fractions.{OfOthers, OfRolesBut}
use Rattle.drf_pick.proofs.ChangedShares.{given_other_roles, given_others, given_registered}
use Rattle.drf_pick.proofs.shares.Shares.give_more.Goals as goal

pub renew_of-requires-clause-holders : goal.renew_of-requires-clause-holders
renew_of-requires-clause-holders c =
    let s = c.self.inside in
    let t : Tally = s.holdings in
    let f = c.args.framework in
    let rows = c.args.resources.now in
    let some : is_some (find (is_holder f) t.holders) ≡ true = ap (λ (x : Tally). is_some (find (is_holder f) x.holders)) c.self.view_is ∙ c.requires.known in
    let is : c.give.new.self ≡ held_more f rows t = c.in_ok-give.ensures.ok ∙ given_registered f rows t some in
    subst (λ (x : Tally). OfOthers f x.totals x.holders s.fractions.items) (sym is) (given_others f rows t.totals t.holders s.fractions.items c.self.invariant.0)

pub renew_of-requires-clause-roles : goal.renew_of-requires-clause-roles
renew_of-requires-clause-roles c =
    let s = c.self.inside in
    let t : Tally = s.holdings in
    let f = c.args.framework in
    let rows = c.args.resources.now in
    let some : is_some (find (is_holder f) t.holders) ≡ true = ap (λ (x : Tally). is_some (find (is_holder f) x.holders)) c.self.view_is ∙ c.requires.known in
    let is : c.give.new.self ≡ held_more f rows t = c.in_ok-give.ensures.ok ∙ given_registered f rows t some in
    subst (λ (x : Tally). OfRolesBut (find (is_holder f) x.holders) x.totals x.roles s.role_fractions.items) (sym is) (given_other_roles f rows t.totals t.holders t.roles s.role_fractions.items c.self.invariant.1)
