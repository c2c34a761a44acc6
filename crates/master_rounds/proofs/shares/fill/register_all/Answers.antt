use Rattle.std.proofs.Common.{◌<◌, length, take, sym, subst, ◌∙◌, arith}
use Rattle.drf_pick.specs.Shown.{AreCounted}
use Rattle.drf_pick.proofs.Counting.{same_many}
use Rattle.master_state.specs.LastRound.{clients_of}
use Rattle.master_rounds.proofs.Registered.{clients_more, none_before}
use Rattle.master_rounds.proofs.shares.fill.register_all.Goals as goal

pub loop-place-preserved : goal.loop-place-preserved
loop-place-preserved c =
    let fs = c.args.frameworks.now in
    let i = c.loop-place.place in
    let f = c.index-frameworks-place.result in
    let is = c.index-frameworks-place.is in
    let inv = c.loop-place.invariant in
    let within : i < length fs = omega (arith, c.loop-place-test.true, c.loop-place.auto.place-end) in
    record {
      owned = c.register.ensures.owned ∙ inv.owned;
      counted = subst (λ cs. AreCounted cs c.register.new.counted) (sym (clients_more fs i f within is)) (c.in_ok-register.ensures.counted (clients_of (take i fs)) (none_before fs i f c.requires.ordered within is) inv.counted);
      many = same_many c.loop-place.counted.found.items c.register.new.counted.found.items c.in_ok-register.ensures.found ∙ inv.many;
    }
