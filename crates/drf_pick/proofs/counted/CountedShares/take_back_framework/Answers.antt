use Rattle.std.proofs.Common.{length, ◌≡◌, ◌<◌, List, take, ap, subst, ◌∙◌, arith}
use Rattle.std.specs.List.{AllByRecursion}
use Rattle.std.proofs.lemmas.Result.{err_from_is_err_and}
use Rattle.std.proofs.Math.ListN.{length-set}
use Rattle.std.proofs.Math.Seq.{take-length}
use Rattle.quantity.specs.Rows.{amount}
use Rattle.drf_pick.specs.Allocations.{Found}
use Rattle.drf_pick.specs.Shown.{HasNone, counted_in}
use Rattle.drf_pick.proofs.Counting.{all_more, counted_none, memory_at, moved_at, same_found}
use Rattle.drf_pick.proofs.counted.CountedShares.take_back_framework.Goals as goal

pub loop-place-preserved : goal.loop-place-preserved
loop-place-preserved c =
    let fs = c.loop-place.self.found.items in
    let i = c.loop-place.place in
    let f = c.index_mut.result.now in
    let g = c.take_back_for.new.found in
    let inv = c.loop-place.invariant in
    let is = c.index_mut.ensures.value in
    let within : i < length fs = omega (arith, c.loop-place-test.true, c.len-place-end.ensures, inv.many) in
    record {
      many = length-set fs i g ∙ inv.many;
      owned = inv.owned;
      found = same_found c.args.self.now.found.items fs i f g within is c.in_ok-take_back_for.ensures.allocations inv.found;
      none = all_more (λ h. HasNone c.args.framework (counted_in h)) fs i g within inv.none c.in_ok-take_back_for.ensures.none;
      counted = λ cs k. let before = inv.counted cs k in record { once = before.once; owned = λ name. ap (amount name) c.take_back_for.ensures.totals ∙ before.owned name; shown = moved_at fs i f g within is cs c.loop-place.self.shares c.take_back_for.new.shares before.once c.in_ok-take_back_for.ensures.moves before.shown };
    }

pub returns-clause-none : goal.returns-clause-none
returns-clause-none c =
    let fs = c.loop-place.self.found.items in
    let inv = c.loop-place.invariant in
    let all : c.loop-place.place ≡ length fs = omega (arith, c.loop-place-test.false, c.loop-place.auto.place-end, c.len-place-end.ensures, inv.many) in
    counted_none c.args.framework fs (subst (λ (hs : List Found). AllByRecursion (λ h. HasNone c.args.framework (counted_in h)) hs) (ap (λ n. take n fs) all ∙ take-length fs) inv.none)

pub returns-in_err-take_back_for-clause-memory : goal.returns-in_err-take_back_for-clause-memory
returns-in_err-take_back_for-clause-memory c =
    let inv = c.loop-place.invariant in
    let fs = c.loop-place.self.found.items in
    let f = c.index_mut.result.now in
    let within : c.loop-place.place < length fs = omega (arith, c.loop-place-test.true, c.len-place-end.ensures, inv.many) in
    let p = err_from_is_err_and c.from_residual.result c.from_residual.ensures.1 in
    let fault = c.in_err-take_back_for.field-0.0 in
    rw (p.1, p.2) (λ cs k. let before = inv.counted cs k in memory_at fs c.loop-place.place f f within c.index_mut.ensures.value cs c.loop-place.self.shares fault before.once c.in_err-take_back_for.ensures.memory before.shown)
