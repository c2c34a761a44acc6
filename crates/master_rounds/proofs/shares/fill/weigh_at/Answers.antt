use Rattle.std.proofs.Common.{◌≡◌, ℕ, List, get_or, ap, ◌∙◌}
use Rattle.names_core.specs.Weights.{weight_of}
use Rattle.drf_pick.specs.declared.holder.RoleSum.{RoleSum}
use Rattle.drf_pick.specs.Shares.{Tally, weighed}
use Rattle.master_rounds.proofs.Weighing.{weighed_at}
use Rattle.master_rounds.proofs.shares.fill.weigh_at.Goals as goal

pub returns-in-Ok : goal.returns-in-Ok
returns-in-Ok c =
    let t : Tally = c.args.shares.now in
    let place : ℕ = c.args.place in
    let ws = c.args.weights.now in
    let r : RoleSum = c.index-roles-place.result in
    let is : r ≡ get_or t.roles place r = c.index-roles-place.is ∙ ap (λ xs. get_or xs place r) c.roles.ensures.roles in
    let name : c.in_ok-role.role ≡ r.role = c.in_ok-role.ensures in
    let weight : c.of-weight.result ≡ weight_of ws r.role = c.of-weight.ensures.weight in
    weighed_at t c.weigh.new.self place ws r c.roles.ensures.once c.requires is
    (c.in-Ok.ensures.ok ∙ ap (λ (n : List ℕ). weighed n c.of-weight.result t) name ∙ ap (λ (n : ℕ). weighed r.role n t) weight)
