use Rattle.std.proofs.Common.{length, ◌≡◌, ◌<◌, true, set, List, sym, subst, ap, ◌∙◌, arith}
use Rattle.std.proofs.Math.ListN.{length-set}
use Rattle.quantity.specs.Rows.{amount}
use Rattle.drf_pick.specs.Shares.{Tally}
use Rattle.drf_pick.specs.Allocations.{AddUp, Allocation, Found, all_rows}
use Rattle.drf_pick.specs.Shown.{TallyShows, all_found, counted_of, due_in}
use Rattle.drf_pick.proofs.Counting.{can_count, all_more, all_same, count_at, same_found, totals_kept}
use Rattle.drf_pick.proofs.counted.CountedShares.count.Goals as goal

pub loop-place-preserved : goal.loop-place-preserved
loop-place-preserved c =
    let start = c.args.self.now.found.items in
    let fs = c.loop-place.self.found.items in
    let i = c.loop-place.place in
    let f = c.index_mut.result.now in
    let g = c.count_of.new.found in
    let inv = c.loop-place.invariant in
    let is = c.index_mut.ensures.value in
    let within : i < length fs = omega (arith, c.loop-place-test.true, c.len-place-end.ensures, inv.many) in
    record {
      many = length-set fs i g ∙ inv.many;
      owned = inv.owned;
      found = same_found start fs i f g within is (ap (λ (h : Found). h.allocations) c.in_ok-count_of.ensures.found) inv.found;
      all = all_more (λ h. h.is_counted ≡ true) fs i g within inv.all (ap (λ (h : Found). h.is_counted) c.in_ok-count_of.ensures.found);
      counted = λ cs k. let before = inv.counted cs k in record { once = before.once; owned = λ name. ap (amount name) (ap (λ (t : Tally). t.totals) c.in_ok-count_of.ensures.shares ∙ totals_kept (due_in f) c.loop-place.self.shares) ∙ before.owned name; shown = subst (TallyShows (counted_of (set fs i g)) cs) (sym c.in_ok-count_of.ensures.shares) (count_at fs i f g cs c.loop-place.self.shares within is c.in_ok-count_of.ensures.found before.once before.shown) };
    }

pub count_of-requires : goal.count_of-requires
count_of-requires c =
    let start = c.args.self.now.found.items in
    let fs = c.loop-place.self.found.items in
    let i = c.loop-place.place in
    let f = c.index_mut.result.now in
    let inv = c.loop-place.invariant in
    let within : i < length fs = omega (arith, c.loop-place-test.true, c.len-place-end.ensures, inv.many) in
    let below : AddUp (all_rows (all_found fs)) = subst (λ (as_ : List Allocation). AddUp (all_rows as_)) (sym (all_same start fs inv.found)) c.requires.sums in
    let cs = c.requires.shown.0 in
    let before = inv.counted cs c.requires.shown.1 in
    can_count fs i f cs c.loop-place.self.shares within c.index_mut.ensures.value before.once before.shown below
