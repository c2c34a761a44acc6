use Rattle.std.proofs.Common.{◌≡◌, ℕ, suc, ◌+◌, ◌<◌, List, length, set, take, get_or, ap, sym, subst, ◌∙◌, arith}
use Rattle.std.proofs.Math.ListN.{length-set}
use Rattle.quantity.specs.declared.rows.Row.{Row}
use Rattle.drf_shares.specs.Dominant.{IsDominant}
use Rattle.drf_pick.specs.Shares.{RoleSum, Tally}
use Rattle.drf_pick.specs.Fractions.{OfRoles, role_held}
use Rattle.drf_pick.proofs.KeptShares.{next_renewed}
use Rattle.drf_pick.proofs.shares.renew_roles.Goals as goal

pub loop-place-preserved : goal.loop-place-preserved
loop-place-preserved c =
    let t : Tally = c.args.holdings.now in
    let i : ℕ = c.loop-place.place in
    let fs = c.loop-place.fractions.items in
    let inv = c.loop-place.invariant in
    let item : RoleSum = c.index-sums-place.result in
    let all : c.as_slice-sums.result.now ≡ t.roles = c.as_slice-sums.ensures.sums ∙ c.roles.ensures in
    let is : item ≡ get_or t.roles i item = c.index-sums-place.is ∙ ap (λ xs. get_or xs i item) all in
    let within : i < length t.roles = omega (arith, c.loop-place-test.true, ap length all) in
    let of_totals = subst (λ (rows : List Row). IsDominant rows (get_or c.as_slice-sums.result.now i item).held c.dominant.result) c.totals.ensures c.dominant.ensures in
    let its = subst (λ (x : RoleSum). IsDominant t.totals x.held c.dominant.result) (sym c.index-sums-place.is) of_totals in
    let next : suc i ≡ i + 1 = omega arith in
    record {
      room = omega (arith, inv.room, length-set fs i c.dominant.result);
      renewed = subst (λ (n : ℕ). OfRoles t.totals (take n t.roles) (set fs i c.dominant.result)) next (next_renewed role_held t.totals t.roles fs i item c.dominant.result within inv.room is inv.renewed its);
    }
