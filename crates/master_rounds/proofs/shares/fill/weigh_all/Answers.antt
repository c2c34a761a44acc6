use Rattle.std.proofs.Common.{◌≡◌, ℕ, ◌+◌, ◌<◌, ◌++◌, List, length, map, set, take, drop, ap, ◌∙◌, arith}
use Rattle.std.proofs.Math.ListN.{length-set}
use Rattle.std.proofs.lemmas.List.Edits.{map_over_more}
use Rattle.drf_pick.specs.declared.holder.RoleSum.{RoleSum}
use Rattle.drf_pick.specs.Shares.{Tally, reweighed}
use Rattle.master_rounds.specs.Weighing.{with_roles}
use Rattle.master_rounds.proofs.shares.fill.weigh_all.Goals as goal

pub loop-place-preserved : goal.loop-place-preserved
loop-place-preserved c =
    let first : Tally = c.args.shares.now in
    let t : Tally = c.loop-place.shares in
    let ws = c.args.weights.now in
    let i : ℕ = c.loop-place.place in
    let inv = c.loop-place.invariant in
    let at = c.in_ok-weigh_at.ensures in
    let within : i < length first.roles = omega (arith, c.loop-place-test.true, c.loop-place.auto.place-end, ap length c.roles-place-end.ensures.roles) in
    let next : set t.roles i (reweighed ws at.0) ≡ map (reweighed ws) (take (i + 1) first.roles) ++ drop (i + 1) first.roles =
    map_over_more (reweighed ws) first.roles t.roles i at.0 within (ap (λ (u : Tally). u.roles) inv.weighed) at.1 in
    record {
      many = ap (λ (u : Tally). length u.roles) at.2 ∙ length-set t.roles i (reweighed ws at.0) ∙ inv.many;
      weighed = at.2 ∙ ap (λ (rs : List RoleSum). with_roles rs t) next ∙ ap (with_roles (map (reweighed ws) (take (i + 1) first.roles) ++ drop (i + 1) first.roles)) inv.weighed;
    }
