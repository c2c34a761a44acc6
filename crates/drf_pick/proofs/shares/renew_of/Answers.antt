use Rattle.std.proofs.Common.{◌≡◌, List, Option, Some, get_or, ap, sym, subst, ◌∙◌, arith}
use Rattle.std.specs.List.{position}
use Rattle.std.proofs.lemmas.List.Quantifiers.{position-Some}
use Rattle.quantity.specs.declared.rows.Row.{Row}
use Rattle.drf_shares.specs.Dominant.{IsDominant}
use Rattle.drf_pick.specs.Shares.{Holder, Tally, is_holder}
use Rattle.drf_pick.specs.Fractions.{OfRolesBut, holder_held}
use Rattle.drf_pick.proofs.KeptShares.{first_renewed, no_other, room_but}
use Rattle.drf_pick.proofs.Places.{first_at, none_at}
use Rattle.drf_pick.proofs.shares.renew_of.Goals as goal

pub returns-in_default-clause-holders : goal.returns-in_default-clause-holders
returns-in_default-clause-holders c =
    let test = is_holder c.args.framework in
    let t : Tally = c.args.holdings.now in
    no_other holder_held test t.totals t.holders c.args.fractions.now.items (none_at test t.holders (sym c.place.ensures ∙ c.in_default.is)) c.requires.holders

pub returns-in_default-clause-roles : goal.returns-in_default-clause-roles
returns-in_default-clause-roles c =
    let t : Tally = c.args.holdings.now in
    subst (λ (o : Option Holder). OfRolesBut o t.totals t.roles c.args.role_fractions.now.items)
    (none_at (is_holder c.args.framework) t.holders (sym c.place.ensures ∙ c.in_default.is)) c.requires.roles

pub index_mut-requires : goal.index_mut-requires
index_mut-requires c =
    let test = is_holder c.args.framework in
    let t : Tally = c.args.holdings.now in
    let at : position test t.holders ≡ Some c.in-Some.place = sym c.place.ensures ∙ c.in-Some.is in
    let p = position-Some test t.holders c.in-Some.place c.index-holders-place.result at in
    omega (arith, p.0, room_but holder_held test t.totals t.holders c.args.fractions.now.items c.requires.holders, c.args.fractions.now.ok.0)

pub renew_role-requires : goal.renew_role-requires
renew_role-requires c =
    let test = is_holder c.args.framework in
    let t : Tally = c.args.holdings.now in
    let item = c.index-holders-place.result in
    let is : item ≡ get_or t.holders c.in-Some.place item = c.index-holders-place.is ∙ ap (λ xs. get_or xs c.in-Some.place item) c.holders-holders.ensures in
    let first = first_at test t.holders c.in-Some.place item (sym c.place.ensures ∙ c.in-Some.is) is in
    subst (λ (o : Option Holder). OfRolesBut o t.totals t.roles c.args.role_fractions.now.items) first.found c.requires.roles

pub returns-clause-holders : goal.returns-clause-holders
returns-clause-holders c =
    let test = is_holder c.args.framework in
    let t : Tally = c.args.holdings.now in
    let item = c.index-holders-place.result in
    let is : item ≡ get_or t.holders c.in-Some.place item = c.index-holders-place.is ∙ ap (λ xs. get_or xs c.in-Some.place item) c.holders-holders.ensures in
    let at : position test t.holders ≡ Some c.in-Some.place = sym c.place.ensures ∙ c.in-Some.is in
    let p = position-Some test t.holders c.in-Some.place item at in
    let its = subst (λ (rows : List Row). IsDominant rows item.held c.dominant.result) c.totals.ensures c.dominant.ensures in
    first_renewed holder_held test t.totals t.holders c.args.fractions.now.items c.in-Some.place item c.dominant.result p.0 is (ap test is ∙ p.1) p.2 c.requires.holders its
