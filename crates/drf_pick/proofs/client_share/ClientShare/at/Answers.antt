use Rattle.std.proofs.Common.{◌≡◌, ◌<◌, List, length, get_or, Option, ap, sym, subst, ◌∙◌, arith}
use Rattle.quantity.specs.declared.rows.Row.{Row}
use Rattle.cluster_model.specs.Rounds.{Share}
use Rattle.drf_shares.specs.Dominant.{IsDominant}
use Rattle.drf_pick.specs.Shares.{RoleSum, Tally, is_holder, is_role}
use Rattle.drf_pick.specs.ClientShares.{IsPlaceOf}
use Rattle.drf_pick.specs.Fractions.{holder_held, role_held}
use Rattle.drf_pick.specs.Least.{held_by, held_of, role_share, share_of_sum}
use Rattle.drf_pick.proofs.KeptShares.{beside, room, stands}
use Rattle.drf_pick.proofs.Places.{first_at}
use Rattle.drf_pick.proofs.client_share.ClientShare.at.Goals as goal

pub index-requires : goal.index-requires
index-requires c =
    let s = c.shares.inside in
    let t : Tally = s.holdings in
    let within : c.args.place.holder < length t.holders = subst (λ (x : Tally). c.args.place.holder < length x.holders) (sym c.shares.view_is) c.requires.holder in
    omega (arith, within, room holder_held t.totals t.holders s.fractions.items c.shares.invariant.0, s.fractions.ok.0)

pub index-requires-2 : goal.index-requires-2
index-requires-2 c =
    let s = c.shares.inside in
    let t : Tally = s.holdings in
    let within : c.args.place.role < length t.roles = subst (λ (x : Tally). c.args.place.role < length x.roles) (sym c.shares.view_is) c.requires.role in
    omega (arith, within, room role_held t.totals t.roles s.role_fractions.items c.shares.invariant.1, s.role_fractions.ok.0)

pub returns : goal.returns
returns c = λ framework role of.
    let s = c.shares.inside in
    let t : Tally = s.holdings in
    let rs = t.roles in
    let is : IsPlaceOf t framework role c.args.place = subst (λ (x : Tally). IsPlaceOf x framework role c.args.place) (sym c.shares.view_is) of in
    let holder = stands (is_holder framework) t.holders c.args.place.holder is.holder in
    let found = stands (is_role role) rs c.args.place.role is.by_role in
    let own = beside holder_held t.totals t.holders s.fractions.items c.args.place.holder holder.item c.index.result.now c.shares.invariant.0 holder.within holder.is c.index.ensures in
    let its = beside role_held t.totals rs s.role_fractions.items c.args.place.role found.item c.index-2.result.now c.shares.invariant.1 found.within found.is c.index-2.ensures in
    let all : c.as_slice-sums.result.now ≡ rs = c.as_slice-sums.ensures.sums ∙ c.roles.ensures in
    let item = c.index-sums-place.result in
    let here : item ≡ get_or rs c.args.place.role item = c.index-sums-place.is ∙ ap (λ xs. get_or xs c.args.place.role item) all in
    let read = first_at (is_role role) rs c.args.place.role item is.by_role here in
    record {
      own = subst (λ (x : Tally). IsDominant x.totals (held_by x framework) c.index.result.now) c.shares.view_is
          (subst (λ (rows : List Row). IsDominant t.totals rows c.index.result.now) (sym (ap held_of holder.found)) own);
      by_role = record {
        place = sym of.by_role;
        fraction = subst (λ (x : Tally). IsDominant x.totals (role_share x.roles role).held c.index-2.result.now) c.shares.view_is
            (subst (λ (x : Share). IsDominant t.totals x.held c.index-2.result.now) (sym (ap share_of_sum found.found)) its);
        weight = ap (λ (r : RoleSum). r.weight) (sym c.index-sums-place.is) ∙ sym (ap (λ (o : Option RoleSum). (share_of_sum o).weight) read.found) ∙ ap (λ (x : Tally). (role_share x.roles role).weight) c.shares.view_is;
      };
    }
