use Rattle.std.proofs.Common.{◌≡◌, ℕ, ◌+◌, ◌∷◌, List, drop, fold, ap, sym, subst, ◌∙◌, arith}
use Rattle.std.proofs.lemmas.List.{drop_more}
use Rattle.drf_pick.specs.Shares.{CanHold, Tally}
use Rattle.drf_pick.specs.Allocations.{Allocation, all_rows, allocated}
use Rattle.drf_pick.proofs.HeldRows.{first_holds, rest_holds}
use Rattle.drf_pick.proofs.counted.give_all.Goals as goal

pub allocate-requires : goal.allocate-requires
allocate-requires c =
    let gs = c.args.allocations.now in
    let i : ℕ = c.loop-allocation.allocation-index in
    let a : Allocation = c.allocation-item.result in
    let t : Tally = c.loop-allocation.shares in
    let rest : drop i gs ≡ a ∷ drop (i + 1) gs = drop_more gs i a (omega arith) ∙ ap (λ (x : Allocation). x ∷ drop (i + 1) gs) (sym c.allocation-item.is) in
    first_holds a (drop (i + 1) gs) t (subst (λ (xs : List Allocation). CanHold (all_rows xs) t) rest c.loop-allocation.invariant.room)

pub loop-allocation-preserved : goal.loop-allocation-preserved
loop-allocation-preserved c =
    let gs = c.args.allocations.now in
    let i : ℕ = c.loop-allocation.allocation-index in
    let a : Allocation = c.allocation-item.result in
    let t : Tally = c.loop-allocation.shares in
    let more = drop (i + 1) gs in
    let rest : drop i gs ≡ a ∷ more = drop_more gs i a (omega arith) ∙ ap (λ (x : Allocation). x ∷ more) (sym c.allocation-item.is) in
    let is : c.allocate.new.self ≡ allocated t a = c.in-Ok.ensures.ok in
    record {
      given = ap (λ (u : Tally). fold allocated u more) is ∙ ap (fold allocated t) (sym rest) ∙ c.loop-allocation.invariant.given;
      room = subst (CanHold (all_rows more)) (sym is) (rest_holds a more t (subst (λ (xs : List Allocation). CanHold (all_rows xs) t) rest c.loop-allocation.invariant.room));
    }
