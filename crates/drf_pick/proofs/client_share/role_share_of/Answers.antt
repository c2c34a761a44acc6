use Rattle.std.proofs.Common.{◌≡◌, [], get_or, Option, None, Some, ap, sym, subst, ◌∙◌, arith}
use Rattle.std.specs.List.{find, position}
use Rattle.cluster_model.specs.Rounds.{Share}
use Rattle.drf_shares.specs.Dominant.{IsDominant, Part}
use Rattle.drf_shares.proofs.Dominating.{nothing_held}
use Rattle.drf_pick.specs.Shares.{RoleSum, Tally, is_role}
use Rattle.drf_pick.specs.Fractions.{role_held}
use Rattle.drf_pick.specs.Least.{role_share, share_of_sum}
use Rattle.drf_pick.proofs.KeptShares.{beside, room, stands}
use Rattle.drf_pick.proofs.Places.{first_at, none_at}
use Rattle.drf_pick.proofs.client_share.role_share_of.Goals as goal

pub index-requires : goal.index-requires
index-requires c =
    let s = c.shares.inside in
    let t : Tally = s.holdings in
    let at : position (is_role c.args.role.now) t.roles ≡ Some c.in-Some.place = sym c.role_place.ensures ∙ c.in-Some.is in
    let found = stands (is_role c.args.role.now) t.roles c.in-Some.place at in
    omega (arith, found.within, room role_held t.totals t.roles s.role_fractions.items c.shares.invariant.1, s.role_fractions.ok.0)

pub returns-in-Some : goal.returns-in-Some
returns-in-Some c =
    let s = c.shares.inside in
    let t : Tally = s.holdings in
    let rs = t.roles in
    let name = c.args.role.now in
    let at : position (is_role name) rs ≡ Some c.in-Some.place = sym c.role_place.ensures ∙ c.in-Some.is in
    let found = stands (is_role name) rs c.in-Some.place at in
    let its = beside role_held t.totals rs s.role_fractions.items c.in-Some.place found.item c.index.result.now c.shares.invariant.1 found.within found.is c.index.ensures in
    let all : c.as_slice-sums.result.now ≡ rs = c.as_slice-sums.ensures.sums ∙ c.roles.ensures in
    let item = c.index-sums-place.result in
    let is : item ≡ get_or rs c.in-Some.place item = c.index-sums-place.is ∙ ap (λ xs. get_or xs c.in-Some.place item) all in
    let read = first_at (is_role name) rs c.in-Some.place item at is in
    record {
      place = sym at ∙ ap (λ (x : Tally). position (is_role name) x.roles) c.shares.view_is;
      fraction = subst (λ (x : Tally). IsDominant x.totals (role_share x.roles name).held c.index.result.now) c.shares.view_is
          (subst (λ (x : Share). IsDominant t.totals x.held c.index.result.now) (sym (ap share_of_sum found.found)) its);
      weight = ap (λ (r : RoleSum). r.weight) (sym c.index-sums-place.is) ∙ sym (ap (λ (o : Option RoleSum). (share_of_sum o).weight) read.found) ∙ ap (λ (x : Tally). (role_share x.roles name).weight) c.shares.view_is;
    }

pub returns-in-None : goal.returns-in-None
returns-in-None c =
    let t : Tally = c.shares.inside.holdings in
    let name = c.args.role.now in
    let at : position (is_role name) t.roles ≡ None = sym c.role_place.ensures ∙ c.in-None.is in
    let none : find (is_role name) t.roles ≡ None = none_at (is_role name) t.roles at in
    let its : IsDominant t.totals [] c.nothing.result = subst (λ (p : Part). IsDominant t.totals [] p) (sym c.nothing.ensures) (nothing_held t.totals) in
    record {
      place = sym at ∙ ap (λ (x : Tally). position (is_role name) x.roles) c.shares.view_is;
      fraction = subst (λ (x : Tally). IsDominant x.totals (role_share x.roles name).held c.nothing.result) c.shares.view_is
          (subst (λ (x : Share). IsDominant t.totals x.held c.nothing.result) (sym (ap share_of_sum none)) its);
      weight = ap (λ (o : Option RoleSum). (share_of_sum o).weight) (sym none) ∙ ap (λ (x : Tally). (role_share x.roles name).weight) c.shares.view_is;
    }
